use Rattle.operands.proofs.Operands.{opcode_then}
use Rattle.operands.proofs.operand.emit_plain.Goals as goal

pub returns : goal.returns
returns c = search (opcode_then) depth 12
