use Rattle.scope.proofs.Places.{local-table, local-entry, local-place, locals}
use borrow.Author.Rules.{rules}
use Rattle.scope.proofs.local.local_no.Goals as goal

pub find_name-requires : goal.find_name-requires
find_name-requires c = search (local-table, rules)

pub overflow_cast-result : goal.overflow_cast-result
overflow_cast-result c = search (local-entry, rules)

pub overflow_add-result : goal.overflow_add-result
overflow_add-result c = search (local-place, rules)

pub returns-in-Absent : goal.returns-in-Absent
returns-in-Absent c = search (locals) depth 12

pub returns-in-Number : goal.returns-in-Number
returns-in-Number c = search (locals) depth 12

pub returns-in-Some : goal.returns-in-Some
returns-in-Some c = search (rules, locals) depth 12

pub returns-in-None : goal.returns-in-None
returns-in-None c = search (rules, locals) depth 12
