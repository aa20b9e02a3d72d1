use Rattle.segments.proofs.Segments.{no_table}
use Rattle.segments.proofs.elem_segment.emit_without_table.Goals as goal

pub returns : goal.returns
returns c = search (no_table) depth 12
