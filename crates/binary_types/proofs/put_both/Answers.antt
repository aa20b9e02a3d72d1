use Rattle.emit.proofs.Laws.{put_then}
use Rattle.binary.proofs.Parts.{put-byte-is}
use Rattle.binary_types.proofs.put_both.Goals as goal

pub returns : goal.returns
returns c = search (put-byte-is, put_then)
