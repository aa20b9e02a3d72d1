use Rattle.operands.proofs.Operands.{label_is}
use Rattle.operands.proofs.operand.emit_label.Goals as goal

pub returns : goal.returns
returns c = search label_is
