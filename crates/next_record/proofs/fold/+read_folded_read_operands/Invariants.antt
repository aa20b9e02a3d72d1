use Rattle.std.proofs.Common.{◌+◌, ◌*◌, ◌-◌}
use Rattle.next_record.proofs.Along.{Due}
use Rattle.next_record.proofs.fold.+read_folded_read_operands.Given as goal

-- each folded record is nested one deeper than the one whose operand it is
abbrev pub decreases-read_folded : goal.decreases-read_folded
decreases-read_folded l = 2 * l.left

abbrev pub decreases-read_operands : goal.decreases-read_operands
decreases-read_operands l = 2 * l.nesting + 1

-- what is due comes to what the operands come to
abbrev pub invariant-read_operands-loop-due : goal.invariant-read_operands-loop-due
invariant-read_operands-loop-due l = Due l.nesting l.s l.p l.n l.initial.d l.at l.rec l.left l.due l.d

-- each turn reads a record
abbrev pub decreases-read_operands-loop-due : goal.decreases-read_operands-loop-due
decreases-read_operands-loop-due l = 4096 - l.rec
