use Rattle.binary.proofs.Parts.{put_name_is}
use Rattle.binary.proofs.names.put_name.Goals as goal

pub returns : goal.returns
returns c = search put_name_is
