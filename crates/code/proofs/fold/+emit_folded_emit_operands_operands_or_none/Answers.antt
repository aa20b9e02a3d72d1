use Rattle.std.specs.Prelude.{Ok}
use mathlib.Core.Path.{refl, ◌∙◌, ap}
use borrow.Author.Rules.{rules}
use native.Mathlib.Omega.{arith}
use Rattle.instr.proofs.Stretches.{whole-folded}
use Rattle.code.proofs.Places.{in_place, within-body, within-past}
use Rattle.code.proofs.Folds.{foldings, folded-operands, folded-says, folded-uses, folded_gets, operating_again, operating_done, operating_cut, operating_stops, operating_begin, operating_within, operating_resolvable, operands-absent}
use Rattle.code.proofs.fold.+emit_folded_emit_operands_operands_or_none.Goals as goal

pub emit_folded-returns-then-left-lt1 : goal.emit_folded-returns-then-left-lt1
emit_folded-returns-then-left-lt1 t c = search (foldings, rules) depth 12

pub emit_folded-returns-then-p-ge4096 : goal.emit_folded-returns-then-p-ge4096
emit_folded-returns-then-p-ge4096 t c = search (foldings, rules) depth 12

pub emit_folded-skip_folded-requires : goal.emit_folded-skip_folded-requires
emit_folded-skip_folded-requires t c = search (whole-folded, rules)

pub emit_folded-operands_or_none-held-requires : goal.emit_folded-operands_or_none-held-requires
emit_folded-operands_or_none-held-requires t c =
    (search rules, (search rules, search rules, search (within-past, rules), folded-operands _ _ _ c.in-Some.ensures _ _ _ (search rules) (search rules) (search rules) _ refl))

pub emit_folded-operator_last-requires : goal.emit_folded-operator_last-requires
emit_folded-operator_last-requires t c =
    (search rules, search rules, search (within-body, in_place, rules), search (folded-says, rules), search (folded-uses, rules), search (folded_gets, rules))

pub emit_folded-returns-in-Some : goal.emit_folded-returns-in-Some
emit_folded-returns-in-Some t c = search (foldings, rules) depth 12

pub emit_folded-returns-in-None : goal.emit_folded-returns-in-None
emit_folded-returns-in-None t c = search (foldings, rules) depth 12

pub emit_operands-loop-init : goal.emit_operands-loop-init
emit_operands-loop-init t c = search (operating_begin, rules)

pub emit_operands-emit_folded-requires : goal.emit_operands-emit_folded-requires
emit_operands-emit_folded-requires t c = (search rules, (search rules, search rules, operating_within c.loop.invariant, operating_resolvable c.loop.invariant (omega (arith, c.loop-test.true))))

pub emit_operands-returns-in_default : goal.emit_operands-returns-in_default
emit_operands-returns-in_default t c = operating_cut c.loop.invariant (omega (arith, c.loop-test.true)) _ _ c.emit_folded.ensures (c.in_ok-b.was ∙ ap Ok c.in_default.is)

pub emit_operands-returns-in_err-b : goal.emit_operands-returns-in_err-b
emit_operands-returns-in_err-b t c = operating_stops c.loop.invariant (omega (arith, c.loop-test.true)) _ _ c.emit_folded.ensures _ _ c.in_err-b.was c.from_residual.ensures.0 c.from_residual.ensures.1

pub emit_operands-loop-preserved : goal.emit_operands-loop-preserved
emit_operands-loop-preserved t c = operating_again c.loop.invariant (omega (arith, c.loop-test.true)) _ _ c.emit_folded.ensures _ _ _ (c.in_ok-b.was ∙ ap Ok c.in-Some.is) (omega arith)

pub emit_operands-returns : goal.emit_operands-returns
emit_operands-returns t c = operating_done c.loop.invariant (omega (arith, c.loop-test.false))

pub operands_or_none-returns-then-n-eq0 : goal.operands_or_none-returns-then-n-eq0
operands_or_none-returns-then-n-eq0 t c = search (operands-absent, rules)
