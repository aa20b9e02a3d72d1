use Rattle.counting.proofs.Words.{Counting}
use Rattle.counting.proofs.put_counts.Given as goal

abbrev pub invariant-loop-i : goal.invariant-loop-i
invariant-loop-i l = Counting l.initial.work l.counts l.at l.work l.i
