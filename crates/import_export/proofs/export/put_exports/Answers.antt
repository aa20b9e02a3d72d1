use Rattle.import_export.proofs.Exports.{export_begin, export_again, export_fault, export_done}
use Rattle.import_export.proofs.export.put_exports.Goals as goal

pub loop-i-init : goal.loop-i-init
loop-i-init c = search export_begin

pub loop-i-preserved : goal.loop-i-preserved
loop-i-preserved c = search export_again

pub returns-in_default : goal.returns-in_default
returns-in_default c = search export_fault

pub returns : goal.returns
returns c = search export_done
