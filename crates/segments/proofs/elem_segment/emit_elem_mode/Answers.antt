use Rattle.segments.proofs.Segments.{elem-passive, elem-active}
use Rattle.segments.proofs.elem_segment.emit_elem_mode.Goals as goal

pub returns-in-Passive : goal.returns-in-Passive
returns-in-Passive c = search (elem-passive, elem-active) depth 12

pub returns-in-Active : goal.returns-in-Active
returns-in-Active c = search (elem-passive, elem-active) depth 12
