use Rattle.syntax.proofs.Ways.{handed}
use Rattle.segments.proofs.Segments.{data_to, data_not}
use Rattle.segments.proofs.data_segment.emit_data.Goals as goal

pub returns : goal.returns
returns c = search (data_to, c.in_ok-a.was) depth 12

pub returns-in_err-a : goal.returns-in_err-a
returns-in_err-a c = rw (handed _ _ c.from_residual.ensures.0 c.from_residual.ensures.1) (search (data_not, c.in_err-a.was) depth 12)
