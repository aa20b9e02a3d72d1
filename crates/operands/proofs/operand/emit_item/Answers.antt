use Rattle.operands.proofs.Operands.{item-is}
use Rattle.operands.proofs.operand.emit_item.Goals as goal

pub returns : goal.returns
returns c = search (item-is) depth 6
