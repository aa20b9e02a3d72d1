use Rattle.syntax.proofs.Ways.{handed}
use Rattle.import_export.proofs.Imports.{func_to, func_not}
use Rattle.import_export.proofs.import.emit_func_type.Goals as goal

pub returns : goal.returns
returns c = search (func_to, c.in_ok-n.was) depth 12

pub returns-in_err-n : goal.returns-in_err-n
returns-in_err-n c = rw (handed _ _ c.from_residual.ensures.0 c.from_residual.ensures.1) (search (func_not, c.in_err-n.was) depth 12)
