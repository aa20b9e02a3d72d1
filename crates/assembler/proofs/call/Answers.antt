use Rattle.assembler.proofs.Whole.{call-is}
use Rattle.assembler.proofs.call.Goals as goal

pub returns : goal.returns
returns c = search call-is
