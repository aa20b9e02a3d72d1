use Rattle.segments.proofs.Segments.{memory_0, memory_other}
use Rattle.segments.proofs.data_segment.put_memory.Goals as goal

pub returns-then-m-eq0 : goal.returns-then-m-eq0
returns-then-m-eq0 c = search (memory_0, memory_other) depth 12

pub returns : goal.returns
returns c = search (memory_0, memory_other) depth 12
