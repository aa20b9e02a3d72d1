use mathlib.Core.Path.{refl}
use Rattle.function.proofs.Laws.{sized-beyond, sized-after, sized-long, sized-resolvable, sized-short, sized-room, sized_moved, sized_again, sized_not}
use borrow.Author.Rules.{rules}
use Rattle.function.proofs.emit_sized.Goals as goal

pub returns-then-out-at : goal.returns-then-out-at
returns-then-out-at c = search (sized-beyond, rules)

pub overflow_sub-n : goal.overflow_sub-n
overflow_sub-n c = search (sized-after, rules)

pub returns-then-n-lt128 : goal.returns-then-n-lt128
returns-then-n-lt128 c = sized-short _ _ _ _ _ _ _ _ _ _ _ c.in_ok-b.ensures _ refl (search rules) _ _ c.if-n-lt128.true c.put.ensures

pub put_length-requires : goal.put_length-requires
put_length-requires c = sized-room _ _ _ _ _ _ _ _ _ _ _ c.in_ok-b.ensures _ refl (search rules) _ c.sized_end.ensures c.if-sized_end-out.true

pub returns-then-sized_end-out : goal.returns-then-sized_end-out
returns-then-sized_end-out c = sized_moved _ _ _ _ _ _ _ _ _ _ _ c.in_ok-b.ensures _ refl (search rules) _ c.sized_end.ensures c.if-sized_end-out.true _ _ c.put_length.ensures

pub emit_again-requires : goal.emit_again-requires
emit_again-requires c = (search (sized-long, rules), search rules, search rules, search (sized-resolvable, rules), search rules)

pub returns : goal.returns
returns c = sized_again _ _ _ _ _ _ _ _ _ _ _ c.in_ok-b.ensures _ refl (search rules) (search rules) _ _ _ c.emit_again.ensures

pub returns-in_err-b : goal.returns-in_err-b
returns-in_err-b c = search (sized_not, rules)
