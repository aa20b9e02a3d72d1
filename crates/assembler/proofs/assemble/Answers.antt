use Rattle.assembler.proofs.Whole.{plain-call}
use Rattle.assembler.proofs.assemble.Goals as goal

pub returns : goal.returns
returns c = search plain-call
