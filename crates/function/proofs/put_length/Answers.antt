use borrow.Author.Rules.{rules}
use Rattle.function.proofs.Sized.{some-groups, length-room, length-put}
use Rattle.function.proofs.put_length.Goals as goal

pub overflow_sub-more : goal.overflow_sub-more
overflow_sub-more c = search (some-groups, rules)

pub move_up-requires : goal.move_up-requires
move_up-requires c = search (length-room, rules)

pub returns : goal.returns
returns c = search (length-put, rules)
