use Rattle.syntax.proofs.Ways.{handed}
use Rattle.operands.proofs.Operands.{access_to, access_not}
use Rattle.operands.proofs.operand.emit_access.Goals as goal

pub returns : goal.returns
returns c = search (access_to, c.in_ok-m.was) depth 12

pub returns-in_err-m : goal.returns-in_err-m
returns-in_err-m c = rw (handed _ _ c.from_residual.ensures.0 c.from_residual.ensures.1) (search (access_not, c.in_err-m.was) depth 12)
