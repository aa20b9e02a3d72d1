use Rattle.syntax.proofs.Ways.{handed}
use Rattle.operands.proofs.Constants.{const_to, const_not}
use Rattle.operands.proofs.constant.emit_const.Goals as goal

pub returns : goal.returns
returns c = search (const_to, c.in_ok-o.was) depth 12

pub returns-in_err-o : goal.returns-in_err-o
returns-in_err-o c = rw (handed _ _ c.from_residual.ensures.0 c.from_residual.ensures.1) (search (const_not, c.in_err-o.ensures) depth 12)
