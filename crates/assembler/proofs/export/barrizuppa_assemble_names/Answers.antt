use Rattle.assembler.proofs.Exported.{hands_names}
use Rattle.assembler.proofs.export.barrizuppa_assemble_names.Goals as goal

pub returns : goal.returns
returns c = search hands_names
