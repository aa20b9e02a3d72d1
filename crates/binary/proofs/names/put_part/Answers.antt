use Rattle.emit.proofs.Laws.{put_is}
use Rattle.binary.proofs.names.put_part.Goals as goal

pub returns : goal.returns
returns c = search put_is
