use Rattle.syntax.proofs.Ways.{handed}
use Rattle.operands.proofs.Numbers.{two_unread, two_read, two_halts}
use Rattle.operands.proofs.items.emit_two.Goals as goal

pub returns-in_ok-o-in-Ok : goal.returns-in_ok-o-in-Ok
returns-in_ok-o-in-Ok c = search (two_read, c.in_ok-o-in-Ok.was) depth 8

pub returns-in_err-o-in-Ok : goal.returns-in_err-o-in-Ok
returns-in_err-o-in-Ok c = rw (handed _ _ c.from_residual.ensures.0 c.from_residual.ensures.1) (search (two_halts, c.in_err-o-in-Ok.ensures) depth 8)

pub returns-in-Err : goal.returns-in-Err
returns-in-Err c = search (two_unread) depth 8
