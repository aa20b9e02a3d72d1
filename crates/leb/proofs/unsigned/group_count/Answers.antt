use borrow.Author.Rules.{rules}
use lib.Count.{leading_le}
use Rattle.leb.proofs.Writing.{count_zero, count_rule}
use Rattle.leb.proofs.unsigned.group_count.Goals as goal

pub returns-then-x-eq0 : goal.returns-then-x-eq0
returns-then-x-eq0 c = search (count_zero, rules)

pub overflow_sub-bits : goal.overflow_sub-bits
overflow_sub-bits c = search (leading_le, rules)

pub returns : goal.returns
returns c = search (count_rule, rules)
