use Rattle.syntax.proofs.Ways.{handed}
use Rattle.import_export.proofs.Exports.{export_to, export_not}
use Rattle.import_export.proofs.export.emit_export.Goals as goal

pub returns : goal.returns
returns c = search (export_to, c.in_ok-n.was) depth 12

pub returns-in_err-n : goal.returns-in_err-n
returns-in_err-n c = rw (handed _ _ c.from_residual.ensures.0 c.from_residual.ensures.1) (search (export_not, c.in_err-n.was) depth 12)
