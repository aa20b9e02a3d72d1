use Rattle.next_record.proofs.Folding.{does_no_byte, does_calling, does_name, does_plain, does_barred}
use Rattle.std.proofs.Common.{rules}
use Rattle.next_record.proofs.head.operator_does.Goals as goal

pub returns-in-Calling : goal.returns-in-Calling
returns-in-Calling c = does_calling _ _ _ _ _ c.in-Ok.ensures _ c.opcode_form.ensures c.in-Calling.is

pub returns-then-names_data : goal.returns-then-names_data
returns-then-names_data c = does_name _ _ _ _ _ c.in-Ok.ensures _ c.opcode_form.ensures _ _ c.in-Operands.is c.names_data.ensures (search rules)

pub returns-else-names_data : goal.returns-else-names_data
returns-else-names_data c = does_plain _ _ _ _ _ c.in-Ok.ensures _ c.opcode_form.ensures _ _ c.in-Operands.is c.names_data.ensures (search rules)

pub returns-in_default : goal.returns-in_default
returns-in_default c = does_barred _ _ _ _ _ c.in-Ok.ensures _ c.opcode_form.ensures c.in_default.not-Calling c.in_default.not-Operands

pub returns-in-Err : goal.returns-in-Err
returns-in-Err c = does_no_byte _ _ _ _ c.in-Err.ensures
