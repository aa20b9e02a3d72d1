use Rattle.sections.proofs.Tables.{typing_begin, typing_again, typing_done, typing_long, typing_room, typing_next}
use borrow.Author.Rules.{rules}
use Rattle.sections.proofs.types.put_types.Goals as goal

pub loop-init : goal.loop-init
loop-init c = search (typing_begin, rules)

pub put_type-o-requires : goal.put_type-o-requires
put_type-o-requires c = search (typing_room, rules)

pub overflow_add-place : goal.overflow_add-place
overflow_add-place c = search (typing_next, rules)

pub loop-preserved : goal.loop-preserved
loop-preserved c = search (typing_again, rules)

pub shape_of-out : goal.shape_of-out
shape_of-out c = search typing_long

pub returns : goal.returns
returns c = search (typing_done, rules)
