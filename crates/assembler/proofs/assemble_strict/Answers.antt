use Rattle.assembler.proofs.Whole.{strict-call}
use Rattle.assembler.proofs.assemble_strict.Goals as goal

pub returns : goal.returns
returns c = search strict-call
