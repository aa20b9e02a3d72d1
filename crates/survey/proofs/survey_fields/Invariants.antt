use Rattle.survey.proofs.Surveying.{Surveying}
use Rattle.survey.proofs.survey_fields.Given as goal

abbrev pub invariant-loop-f : goal.invariant-loop-f
invariant-loop-f l = Surveying l.s l.initial.work l.work l.c l.late l.count

abbrev pub decreases-loop-f : goal.decreases-loop-f
decreases-loop-f l = l.c.left
