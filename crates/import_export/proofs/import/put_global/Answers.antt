use Rattle.emit.proofs.Laws.{put_cons}
use Rattle.import_export.proofs.import.put_global.Goals as goal

pub returns : goal.returns
returns c = search (put_cons) depth 12
