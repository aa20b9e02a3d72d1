use Rattle.syntax.proofs.Ways.{handed}
use Rattle.segments.proofs.Segments.{table-nos}
use Rattle.segments.proofs.elem_segment.table_no.Goals as goal

pub returns-in-Absent : goal.returns-in-Absent
returns-in-Absent c = search (table-nos, c.in_ok-n.ensures) depth 12

pub returns-in-Number : goal.returns-in-Number
returns-in-Number c = search (table-nos, c.in_ok-n.ensures) depth 12

pub returns-in-Named : goal.returns-in-Named
returns-in-Named c = search (table-nos, c.in_ok-n.ensures) depth 12

pub returns-in_err-n : goal.returns-in_err-n
returns-in_err-n c = rw (handed _ _ c.from_residual.ensures.0 c.from_residual.ensures.1) (search (table-nos, c.in_err-n.ensures) depth 12)
