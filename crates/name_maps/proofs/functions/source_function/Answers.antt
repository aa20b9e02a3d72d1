use Rattle.name_maps.proofs.Walking.{is-source}
use Rattle.name_maps.proofs.functions.source_function.Goals as goal

pub returns-in-Own : goal.returns-in-Own
returns-in-Own c = search is-source

pub returns-in-Imported : goal.returns-in-Imported
returns-in-Imported c = search is-source
