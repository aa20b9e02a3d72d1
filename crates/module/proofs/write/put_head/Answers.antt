use Rattle.emit.proofs.Laws.{put_cons}
use Rattle.module.proofs.write.put_head.Goals as goal

pub returns : goal.returns
returns c = search put_cons
