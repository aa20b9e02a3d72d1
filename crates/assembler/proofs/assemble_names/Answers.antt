use Rattle.assembler.proofs.Whole.{names-call}
use Rattle.assembler.proofs.assemble_names.Goals as goal

pub returns : goal.returns
returns c = search names-call
