use Rattle.survey.proofs.Surveying.{Passing}
use Rattle.survey.proofs.refused.late_first.Given as goal

abbrev pub invariant-loop-f : goal.invariant-loop-f
invariant-loop-f l = Passing l.s l.work l.c l.late

abbrev pub decreases-loop-f : goal.decreases-loop-f
decreases-loop-f l = l.c.left
