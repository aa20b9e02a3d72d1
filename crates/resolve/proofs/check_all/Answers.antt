use mathlib.Core.Path.{refl}
use Rattle.resolve.proofs.Sweep.{sweep_begin, sweep_long, sweep_ahead, sweep_ready, sweep_again, swept, stopped}
use Rattle.walk.proofs.Steps.{visit_less, visit_few}
use borrow.Author.Rules.{rules}
use Rattle.resolve.proofs.check_all.Goals as goal

pub loop-f-init : goal.loop-f-init
loop-f-init c = search (sweep_begin, rules)

pub visit-m-requires : goal.visit-m-requires
visit-m-requires c = search (sweep_ahead, rules)

pub check_field-requires : goal.check_field-requires
check_field-requires c =
    (record { lent = record { stream = search rules; area = search (sweep_long, rules) }; few = search (visit_few, rules) }, search (sweep_ready, rules))

pub loop-f-smaller : goal.loop-f-smaller
loop-f-smaller c = visit_less _ _ _ c.visit-m.ensures.0 _ _ c.in-Some.is

pub loop-f-preserved : goal.loop-f-preserved
loop-f-preserved c = search (sweep_again, rules)

pub returns-in-None : goal.returns-in-None
returns-in-None c = search (swept, rules)

pub returns-in_err-check_field-in-Some : goal.returns-in_err-check_field-in-Some
returns-in_err-check_field-in-Some c =
    stopped _ _ _ _ _ _ _ _ c.loop-f.invariant _ c.visit-m.ensures.0 _ _ _ _ _ _ _ _ c.in_err-check_field-in-Some.ensures c.in-Some.is refl c.from_residual.ensures.0 c.from_residual.ensures.1
