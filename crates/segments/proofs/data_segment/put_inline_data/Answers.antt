use Rattle.segments.proofs.Segments.{put_inline_lem}
use Rattle.segments.proofs.data_segment.put_inline_data.Goals as goal

pub returns : goal.returns
returns c = search (put_inline_lem) depth 12
