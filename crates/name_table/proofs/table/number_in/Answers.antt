use Rattle.name_table.proofs.Walk.{numbers, names_fit}
use Rattle.name_table.proofs.table.number_in.Goals as goal

pub overflow_cast-result : goal.overflow_cast-result
overflow_cast-result c = search names_fit

pub returns-in-Absent : goal.returns-in-Absent
returns-in-Absent c = search (numbers) depth 8

pub returns-in-Number : goal.returns-in-Number
returns-in-Number c = search (numbers) depth 8

pub returns-in-Some : goal.returns-in-Some
returns-in-Some c = search (numbers) depth 8

pub returns-in-None : goal.returns-in-None
returns-in-None c = search (numbers) depth 8
