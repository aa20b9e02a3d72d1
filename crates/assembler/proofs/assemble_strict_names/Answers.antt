use Rattle.assembler.proofs.Whole.{strict-names-call}
use Rattle.assembler.proofs.assemble_strict_names.Goals as goal

pub returns : goal.returns
returns c = search strict-names-call
