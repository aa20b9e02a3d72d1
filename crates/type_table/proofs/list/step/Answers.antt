use Rattle.type_table.proofs.Lists.{steps, left-some}
use borrow.Author.Rules.{rules}
use Rattle.type_table.proofs.list.step.Goals as goal

pub returns-then-x-y : goal.returns-then-x-y
returns-then-x-y c = search (steps) depth 8

pub overflow_sub-first : goal.overflow_sub-first
overflow_sub-first c = search (left-some, rules)

pub overflow_sub-second : goal.overflow_sub-second
overflow_sub-second c = search (left-some, rules)

pub returns-else-x-y : goal.returns-else-x-y
returns-else-x-y c = search (steps) depth 8

pub returns-in-None-n : goal.returns-in-None-n
returns-in-None-n c = search (steps) depth 8

pub returns-in-Some-n-2 : goal.returns-in-Some-n-2
returns-in-Some-n-2 c = search (steps) depth 8

pub returns-in-None-n-2 : goal.returns-in-None-n-2
returns-in-None-n-2 c = search (steps) depth 8
