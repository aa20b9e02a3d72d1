use Rattle.segments.proofs.Segments.{inline_elem}
use Rattle.segments.proofs.elem_segment.emit_inline_elem.Goals as goal

pub returns : goal.returns
returns c = search (inline_elem) depth 12
