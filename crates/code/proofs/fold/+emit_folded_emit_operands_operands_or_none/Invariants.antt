use Rattle.std.proofs.Common.{◌+◌, ◌-◌, ◌*◌}
use Rattle.code.proofs.Folds.{Operating}
use Rattle.code.proofs.fold.+emit_folded_emit_operands_operands_or_none.Given as goal

abbrev pub decreases-emit_folded : goal.decreases-emit_folded
decreases-emit_folded l = 3 * l.left

abbrev pub decreases-emit_operands : goal.decreases-emit_operands
decreases-emit_operands l = 3 * l.left + 1

abbrev pub decreases-operands_or_none : goal.decreases-operands_or_none
decreases-operands_or_none l = 3 * l.left + 2

abbrev pub invariant-emit_operands-loop : goal.invariant-emit_operands-loop
invariant-emit_operands-loop l = Operating l.s l.work l.l l.initial.q.depth l.left l.n l.initial.q.rec l.initial.q.at l.initial.out l.at l.out l.o l.q (l.n - l.counter)
