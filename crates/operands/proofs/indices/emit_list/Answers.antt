use Rattle.operands.proofs.Turns.{emits-vec}
use Rattle.operands.proofs.indices.emit_list.Goals as goal

pub returns : goal.returns
returns c = search (emits-vec) depth 12
