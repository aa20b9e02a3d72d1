use Rattle.import_export.proofs.Imports.{import_is}
use Rattle.import_export.proofs.import.emit_import.Goals as goal

pub returns : goal.returns
returns c = search (import_is) depth 12
