use Rattle.assembler.proofs.Exported.{hands_strict}
use Rattle.assembler.proofs.export.barrizuppa_assemble_strict.Goals as goal

pub returns : goal.returns
returns c = search hands_strict
