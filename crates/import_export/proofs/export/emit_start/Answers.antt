use Rattle.import_export.proofs.Exports.{start_is}
use Rattle.import_export.proofs.export.emit_start.Goals as goal

pub returns : goal.returns
returns c = search (start_is) depth 12
