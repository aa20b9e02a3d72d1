use Rattle.name_maps.proofs.Walking.{is-own}
use Rattle.name_maps.proofs.functions.own_function.Goals as goal

pub returns-in-Func : goal.returns-in-Func
returns-in-Func c = search is-own
