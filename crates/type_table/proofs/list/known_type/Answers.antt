use Rattle.type_table.proofs.Lists.{nexts}
use Rattle.type_table.proofs.Known.{next_gets, rests}
use Rattle.type_table.proofs.list.known_type.Goals as goal

pub returns-then-left-eq0 : goal.returns-then-left-eq0
returns-then-left-eq0 c = search (nexts, rests) depth 8

pub known_local-requires : goal.known_local-requires
known_local-requires c = search next_gets

pub returns-in-Ok : goal.returns-in-Ok
returns-in-Ok c = search (nexts, rests) depth 8

pub returns-in-Err : goal.returns-in-Err
returns-in-Err c = search (nexts, rests) depth 8

pub returns : goal.returns
returns c = search rests
