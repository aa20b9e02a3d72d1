use Rattle.type_table.proofs.Lists.{nexts}
use Rattle.type_table.proofs.list.next_type.Goals as goal

pub returns-then-left-eq0 : goal.returns-then-left-eq0
returns-then-left-eq0 c = search (nexts) depth 8

pub returns-in-Ok : goal.returns-in-Ok
returns-in-Ok c = search (nexts) depth 8

pub returns-in-Err : goal.returns-in-Err
returns-in-Err c = search (nexts) depth 8

pub returns-in-Ok-val_type : goal.returns-in-Ok-val_type
returns-in-Ok-val_type c = search (nexts) depth 8

pub returns-in-Err-val_type : goal.returns-in-Err-val_type
returns-in-Err-val_type c = search (nexts) depth 8
