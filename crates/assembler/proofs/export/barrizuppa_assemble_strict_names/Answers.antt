use Rattle.assembler.proofs.Exported.{hands_strict_names}
use Rattle.assembler.proofs.export.barrizuppa_assemble_strict_names.Goals as goal

pub returns : goal.returns
returns c = search hands_strict_names
