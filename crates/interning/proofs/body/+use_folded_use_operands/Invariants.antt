use Rattle.std.proofs.Common.{◌+◌, ◌*◌}
use Rattle.interning.proofs.Bodies.{Operating}
use Rattle.interning.proofs.body.+use_folded_use_operands.Given as goal

abbrev pub decreases-use_folded : goal.decreases-use_folded
decreases-use_folded l = 2 * l.left

abbrev pub decreases-use_operands : goal.decreases-use_operands
decreases-use_operands l = 2 * l.left + 1

abbrev pub invariant-use_operands-loop-due : goal.invariant-use_operands-loop-due
invariant-use_operands-loop-due l = Operating l.left l.s l.initial.work l.count l.n l.at l.rec l.work l.k l.due l.here l.r

abbrev pub decreases-use_operands-loop-due : goal.decreases-use_operands-loop-due
decreases-use_operands-loop-due l = l.due
