use borrow.Author.Rules.{rules}
use Rattle.syntax.proofs.Ways.{handed}
use Rattle.frames.proofs.Distinct.{inlines, inline_area, inline_room}
use Rattle.frames.proofs.locals.set_inline.Goals as goal

pub put_locals-requires-2 : goal.put_locals-requires-2
put_locals-requires-2 c = search (inline_room, inline_area, rules, c.in_ok-n.ensures)

pub returns : goal.returns
returns c = search (inlines, c.in_ok-n.ensures, c.in_ok-count.ensures) depth 12

pub returns-in_err-count : goal.returns-in_err-count
returns-in_err-count c = rw (handed _ _ c.from_residual-in_err-count.ensures.0 c.from_residual-in_err-count.ensures.1) (search (inlines, c.in_ok-n.ensures, c.in_err-count.ensures) depth 12)

pub returns-in_err-n : goal.returns-in_err-n
returns-in_err-n c = rw (handed _ _ c.from_residual.ensures.0 c.from_residual.ensures.1) (search (inlines, c.in_err-n.ensures) depth 12)
