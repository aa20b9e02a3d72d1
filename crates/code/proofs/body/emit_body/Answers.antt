use mathlib.Core.Path.{◌∙◌, ap}
use Rattle.std.specs.Prelude.{Ok}
use borrow.Author.Rules.{rules}
use Rattle.code.proofs.Bodies.{going_begin, going_area, going_inside, going_resolvable, going_less, going_again, going_stops, going_done, going_full, going_work, going_out}
use Rattle.code.proofs.body.emit_body.Goals as goal

pub loop-p-init : goal.loop-p-init
loop-p-init c = search (going_begin, rules)

pub one_record-requires : goal.one_record-requires
one_record-requires c = search (going_area, going_inside, going_resolvable, rules)

pub loop-p-smaller : goal.loop-p-smaller
loop-p-smaller c = going_less c.loop-p.invariant (search rules) _ _ _ c.one_record.ensures _ _ (c.in_ok-a.was ∙ ap Ok c.in-Some.is) c.loop-p-test.true

pub loop-p-preserved : goal.loop-p-preserved
loop-p-preserved c = going_again c.loop-p.invariant (search rules) _ _ _ c.one_record.ensures _ _ (c.in_ok-a.was ∙ ap Ok c.in-Some.is)

pub returns-in-None : goal.returns-in-None
returns-in-None c = going_done c.loop-p.invariant (search rules) _ _ _ c.one_record.ensures (c.in_ok-a.was ∙ ap Ok c.in-None.is)

pub returns-in_err-a : goal.returns-in_err-a
returns-in_err-a c = going_stops c.loop-p.invariant (search rules) _ _ _ c.one_record.ensures _ _ c.in_err-a.was c.from_residual.ensures.0 c.from_residual.ensures.1

pub returns : goal.returns
returns c = search (going_full, rules)
