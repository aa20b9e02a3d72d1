use Rattle.syntax.proofs.Ways.{handed}
use Rattle.operands.proofs.Turns.{number_to, number_not}
use Rattle.operands.proofs.indices.emit_number.Goals as goal

pub returns : goal.returns
returns c = search (number_to, c.in_ok-n.was) depth 12

pub returns-in_err-n : goal.returns-in_err-n
returns-in_err-n c = rw (handed _ _ c.from_residual.ensures.0 c.from_residual.ensures.1) (search (number_not, c.in_err-n.was) depth 12)
