use Rattle.binary.proofs.Parts.{put-byte-is}
use Rattle.binary_types.proofs.put_minimum.Goals as goal

pub returns : goal.returns
returns c = search put-byte-is
