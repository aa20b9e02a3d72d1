use Rattle.import_export.proofs.ValTypes.{types_begin, types_again, types_fault, types_done}
use Rattle.import_export.proofs.types.put_each_type.Goals as goal

pub loop-init : goal.loop-init
loop-init c = search types_begin

pub loop-preserved : goal.loop-preserved
loop-preserved c = search types_again

pub returns-in_default : goal.returns-in_default
returns-in_default c = search types_fault

pub returns : goal.returns
returns c = search types_done
