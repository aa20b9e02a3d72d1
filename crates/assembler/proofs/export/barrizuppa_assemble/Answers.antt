use Rattle.assembler.proofs.Exported.{hands_module}
use Rattle.assembler.proofs.export.barrizuppa_assemble.Goals as goal

pub returns : goal.returns
returns c = search hands_module
