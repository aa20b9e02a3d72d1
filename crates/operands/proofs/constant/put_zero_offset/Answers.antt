use Rattle.operands.proofs.Constants.{zero_64, zero_32}
use Rattle.operands.proofs.constant.put_zero_offset.Goals as goal

pub returns-then-is64 : goal.returns-then-is64
returns-then-is64 c = search (zero_64, zero_32) depth 12

pub returns : goal.returns
returns c = search (zero_64, zero_32) depth 12
