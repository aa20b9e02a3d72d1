use Rattle.name_table.proofs.Walk.{numbers, labels_fit}
use Rattle.name_table.proofs.label.depth_of.Goals as goal

pub overflow_cast-result : goal.overflow_cast-result
overflow_cast-result c = search labels_fit

pub returns-in-Absent : goal.returns-in-Absent
returns-in-Absent c = search (numbers) depth 8

pub returns-in-Number : goal.returns-in-Number
returns-in-Number c = search (numbers) depth 8

pub returns-in-Some : goal.returns-in-Some
returns-in-Some c = search (numbers) depth 8

pub returns-in-None : goal.returns-in-None
returns-in-None c = search (numbers) depth 8
