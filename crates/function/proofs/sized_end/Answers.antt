use borrow.Author.Rules.{rules}
use Rattle.function.proofs.Sized.{some-groups, groups_end}
use Rattle.function.proofs.sized_end.Goals as goal

pub overflow_sub-group_count : goal.overflow_sub-group_count
overflow_sub-group_count c = search (some-groups, rules)

pub returns : goal.returns
returns c = search (groups_end, rules)
