use borrow.Author.Rules.{rules}
use Rattle.walk.proofs.Steps.{visit_less}
use Rattle.survey.proofs.Surveying.{passing_begin, passing_done, passing_late, passing_again}
use Rattle.survey.proofs.refused.late_first.Goals as goal

pub loop-f-init : goal.loop-f-init
loop-f-init c = search (passing_begin, rules)

pub returns-in_default-late_after : goal.returns-in_default-late_after
returns-in_default-late_after c = search (passing_late, rules)

pub loop-f-smaller : goal.loop-f-smaller
loop-f-smaller c = search (visit_less, rules)

pub loop-f-preserved : goal.loop-f-preserved
loop-f-preserved c = search (passing_again, rules)

pub returns-in_default : goal.returns-in_default
returns-in_default c = search (passing_done, rules)
