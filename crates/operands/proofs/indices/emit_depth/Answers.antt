use Rattle.syntax.proofs.Ways.{handed}
use Rattle.operands.proofs.Turns.{depth_to, depth_not}
use Rattle.operands.proofs.indices.emit_depth.Goals as goal

pub returns : goal.returns
returns c = search (depth_to, c.in_ok-d.was) depth 12

pub returns-in_err-d : goal.returns-in_err-d
returns-in_err-d c = rw (handed _ _ c.from_residual.ensures.0 c.from_residual.ensures.1) (search (depth_not, c.in_err-d.was) depth 12)
