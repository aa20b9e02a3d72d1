use Rattle.binary.proofs.Immediates.{on_memory_0, on_another}
use Rattle.emit.proofs.Laws.{put_then}
use Rattle.binary.proofs.instructions.put_memarg.Goals as goal

pub returns-then-memory-eq0 : goal.returns-then-memory-eq0
returns-then-memory-eq0 c = search (on_memory_0, on_another, put_then) depth 12

pub returns : goal.returns
returns c = search (on_memory_0, on_another, put_then) depth 12
