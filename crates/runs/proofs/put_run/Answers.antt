use Rattle.emit.proofs.Laws.{put_then}
use Rattle.definition.specs.Binary as Binary
use Rattle.runs.proofs.put_run.Goals as goal

pub returns : goal.returns
unfolding Binary.run Binary.byte
returns c = search put_then
