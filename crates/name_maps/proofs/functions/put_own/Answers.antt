use Rattle.name_maps.proofs.Locals.{own-typed, own-refused}
use Rattle.name_maps.proofs.functions.put_own.Goals as goal

pub returns-in-Ok : goal.returns-in-Ok
returns-in-Ok c = search own-typed

pub returns-in-Err : goal.returns-in-Err
returns-in-Err c = search own-refused
