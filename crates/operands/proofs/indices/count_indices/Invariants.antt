use Rattle.operands.proofs.Turns.{Counting}
use Rattle.operands.proofs.indices.count_indices.Given as goal

abbrev pub invariant-loop-i : goal.invariant-loop-i
invariant-loop-i l = Counting l.s l.l.at l.l.count l.i l.here
