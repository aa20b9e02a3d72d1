use Rattle.import_export.proofs.Exports.{global-is}
use Rattle.import_export.proofs.global.emit_global.Goals as goal

pub returns : goal.returns
returns c = search (global-is) depth 12
