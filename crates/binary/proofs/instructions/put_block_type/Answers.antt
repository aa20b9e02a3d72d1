use Rattle.binary.proofs.Immediates.{block_is}
use Rattle.definition.specs.Binary as Binary
use Rattle.binary.proofs.instructions.put_block_type.Goals as goal

pub returns-in-Empty : goal.returns-in-Empty
unfolding Binary.block_type
returns-in-Empty c = search (block_is)

pub returns-in-Single : goal.returns-in-Single
unfolding Binary.block_type
returns-in-Single c = search (block_is)

pub returns-in-Typed : goal.returns-in-Typed
unfolding Binary.block_type
returns-in-Typed c = search (block_is)
