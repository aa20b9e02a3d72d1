use Rattle.definition.specs.Binary.{imm}
use Rattle.emit.proofs.Laws.{put_then}
use Rattle.binary.proofs.instructions.put_indirect.Goals as goal

pub returns : goal.returns
unfolding imm
returns c = search put_then
