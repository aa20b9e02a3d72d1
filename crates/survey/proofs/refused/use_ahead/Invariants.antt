use Rattle.survey.proofs.Surveying.{Using}
use Rattle.survey.proofs.refused.use_ahead.Given as goal

abbrev pub invariant-loop-f : goal.invariant-loop-f
invariant-loop-f l = Using l.s l.initial.work l.work l.c l.count

abbrev pub decreases-loop-f : goal.decreases-loop-f
decreases-loop-f l = l.c.left
