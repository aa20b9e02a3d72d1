use Rattle.segments.proofs.Segments.{with_memory}
use Rattle.segments.proofs.data_segment.emit_on_memory.Goals as goal

pub returns : goal.returns
returns c = search (with_memory) depth 12
