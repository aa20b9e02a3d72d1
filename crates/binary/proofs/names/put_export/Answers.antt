use Rattle.emit.proofs.Laws.{put_then}
use Rattle.binary.proofs.Parts.{put-byte-is}
use Rattle.binary.proofs.names.put_export.Goals as goal

pub returns : goal.returns
returns c = search (put_then, put-byte-is)
