use Rattle.operands.proofs.Operands.{operands}
use Rattle.operands.proofs.operand.emit_operand.Goals as goal

pub returns-in-Nothing : goal.returns-in-Nothing
returns-in-Nothing c = search (operands) depth 12

pub returns-in-Label : goal.returns-in-Label
returns-in-Label c = search (operands) depth 12

pub returns-in-Labels : goal.returns-in-Labels
returns-in-Labels c = search (operands) depth 12

pub returns-in-Local : goal.returns-in-Local
returns-in-Local c = search (operands) depth 12

pub returns-in-Item : goal.returns-in-Item
returns-in-Item c = search (operands) depth 12

pub returns-in-Items : goal.returns-in-Items
returns-in-Items c = search (operands) depth 12

pub returns-in-Access : goal.returns-in-Access
returns-in-Access c = search (operands) depth 12

pub returns-in-Int32 : goal.returns-in-Int32
returns-in-Int32 c = search (operands) depth 12

pub returns-in-Int64 : goal.returns-in-Int64
returns-in-Int64 c = search (operands) depth 12

pub returns-in-Raw : goal.returns-in-Raw
returns-in-Raw c = search (operands) depth 12

pub returns-in-Heap : goal.returns-in-Heap
returns-in-Heap c = search (operands) depth 12
