use Rattle.syntax.proofs.Ways.{handed}
use Rattle.segments.proofs.Segments.{at_memory_lem, at_memory_not}
use Rattle.segments.proofs.data_segment.emit_at_memory.Goals as goal

pub returns : goal.returns
returns c = search (at_memory_lem, c.in_ok-m.ensures) depth 12

pub returns-in_err-m : goal.returns-in_err-m
returns-in_err-m c = rw (handed _ _ c.from_residual.ensures.0 c.from_residual.ensures.1) (search (at_memory_not, c.in_err-m.ensures) depth 12)
