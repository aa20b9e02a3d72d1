use Rattle.emit.proofs.Laws.{put_then}
use Rattle.binary.proofs.names.put_import_name.Goals as goal

pub returns : goal.returns
returns c = search put_then
