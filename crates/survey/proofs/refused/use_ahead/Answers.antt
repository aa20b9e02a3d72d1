use borrow.Author.Rules.{rules}
use Rattle.walk.proofs.Steps.{visit_less, visit_few, visit_readable}
use Rattle.survey.proofs.Surveying.{using_begin, using_skips, using_whole, using_done, using_refused, using_again}
use Rattle.survey.proofs.refused.use_ahead.Goals as goal

pub loop-f-init : goal.loop-f-init
loop-f-init c = search (using_begin, rules)

pub use_field-requires : goal.use_field-requires
use_field-requires c = (search rules, search rules, search (visit_few, rules), search (using_skips, rules), search (using_whole, rules), search (visit_readable, rules))

pub returns-in_err-count : goal.returns-in_err-count
returns-in_err-count c =
    using_refused _ _ _ _ _ c.loop-f.invariant _ c.visit-m.ensures.0 _ _ c.in-Some.is _ _ c.use_field.ensures _ _ c.in_err-count.was c.from_residual.ensures.0 c.from_residual.ensures.1

pub loop-f-smaller : goal.loop-f-smaller
loop-f-smaller c = search (visit_less, rules)

pub loop-f-preserved : goal.loop-f-preserved
loop-f-preserved c =
    using_again _ _ _ _ _ c.loop-f.invariant _ c.visit-m.ensures.0 _ _ c.in-Some.is _ _ c.use_field.ensures _ c.in_ok-count.was

pub returns-in_default : goal.returns-in_default
returns-in_default c = search (using_done, rules)
