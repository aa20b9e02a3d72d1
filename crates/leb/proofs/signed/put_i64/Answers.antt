use Rattle.leb.proofs.WritingSigned.{put-given}
use Rattle.leb.proofs.signed.put_i64.Goals as goal

pub returns : goal.returns
returns c = search put-given
