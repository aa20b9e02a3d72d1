use Rattle.segments.proofs.Segments.{put-table}
use Rattle.segments.proofs.elem_segment.put_inline_table.Goals as goal

pub returns : goal.returns
returns c = search (put-table) depth 12
