use Rattle.syntax.proofs.Ways.{handed}
use Rattle.segments.proofs.Segments.{with_table, with_table_not}
use Rattle.segments.proofs.elem_segment.emit_with_table.Goals as goal

pub returns : goal.returns
returns c = search (with_table, c.in_ok-b.was) depth 12

pub returns-in_err-b : goal.returns-in_err-b
returns-in_err-b c = rw (handed _ _ c.from_residual.ensures.0 c.from_residual.ensures.1) (search (with_table_not, c.in_err-b.was) depth 12)
