use borrow.Author.Rules.{rules}
use Rattle.walk.proofs.Steps.{visit_less, visit_few, visit_readable}
use Rattle.survey.proofs.Registering.{registering_fit}
use Rattle.survey.proofs.Surveying.{surveying_begin, surveying_done, surveying_skips, surveying_whole, surveying_late, surveying_order, surveying_again, surveying_stops, reaches_so}
use Rattle.survey.proofs.survey_fields.Goals as goal

pub loop-f-init : goal.loop-f-init
loop-f-init c = search (surveying_begin, rules)

pub returns-in_default-late_after : goal.returns-in_default-late_after
returns-in_default-late_after c = search (reaches_so, surveying_late, rules)

pub take_field-took-requires : goal.take_field-took-requires
take_field-took-requires c = (search rules, search rules, search (visit_few, rules), search (surveying_skips, rules), search (surveying_whole, rules), search (visit_readable, rules), search (registering_fit, rules))

pub loop-f-smaller : goal.loop-f-smaller
loop-f-smaller c = search (visit_less, rules)

pub loop-f-preserved : goal.loop-f-preserved
loop-f-preserved c = search (surveying_again, surveying_order, rules)

pub returns-in_default-took : goal.returns-in_default-took
returns-in_default-took c = search (reaches_so, surveying_stops, surveying_order, rules)

pub returns-in_default : goal.returns-in_default
returns-in_default c = search (reaches_so, surveying_done, rules)
