use Rattle.syntax.proofs.Ways.{handed}
use Rattle.segments.proofs.Segments.{at_no_table, at_table_lem, at-table_not}
use Rattle.segments.proofs.elem_segment.emit_at_table.Goals as goal

pub returns-in-None : goal.returns-in-None
returns-in-None c = search (at_no_table, c.in_ok-table_no.ensures) depth 12

pub returns-in-Some : goal.returns-in-Some
returns-in-Some c = search (at_table_lem, c.in_ok-table_no.ensures) depth 12

pub returns-in_err-table_no : goal.returns-in_err-table_no
returns-in_err-table_no c = rw (handed _ _ c.from_residual.ensures.0 c.from_residual.ensures.1) (search (at-table_not, c.in_err-table_no.ensures) depth 12)
