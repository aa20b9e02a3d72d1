use Rattle.resolve.proofs.Sweep.{Sweeping}
use Rattle.resolve.proofs.check_all.Given as goal

abbrev pub invariant-loop-f : goal.invariant-loop-f
invariant-loop-f l = Sweeping l.s l.initial.work l.work l.initial.kept l.kept l.c l.initial.tally l.tally

abbrev pub decreases-loop-f : goal.decreases-loop-f
decreases-loop-f l = l.c.left
