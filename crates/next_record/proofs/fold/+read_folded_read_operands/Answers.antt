use Rattle.std.proofs.Common.{rules}
use mathlib.Core.Path.{ap, ◌∙◌}
use Rattle.syntax.specs.Tokens.{byte_at}
use Rattle.next_record.specs.Folds.{head_is}
use Rattle.next_record.proofs.Steps.{mapped_ok, mapped_err, handed_as}
use Rattle.next_record.proofs.Folding.{foldings, no_byte, no_head, fold_refused}
use Rattle.next_record.proofs.Along.{few-count, one_less, due-begin, due-none, left_falls, left_shallow, some-due, due-refused, few-operands, left-some, one-due, due_less, due_again, full_nests, full_refused, full_less, full_again}
use Rattle.next_record.proofs.fold.+read_folded_read_operands.Goals as goal

pub read_folded-returns-in_err-b : goal.read_folded-returns-in_err-b
read_folded-returns-in_err-b t c =
    mapped_err _ _ _ c.in_err-b.ensures.cases
    (λ f is made. no_byte _ _ _ _ _ _ (c.read_byte.ensures ∙ ap byte_at is) (fold_refused _ _ f (handed_as _ _ _ c.from_residual.ensures.0 c.from_residual.ensures.1 (search rules))))

pub read_folded-returns-then-b : goal.read_folded-returns-then-b
read_folded-returns-then-b t c = search (rules, foldings) depth 12

pub read_folded-returns-then-p-ge4096 : goal.read_folded-returns-then-p-ge4096
read_folded-returns-then-p-ge4096 t c = search (rules, foldings) depth 12

pub read_folded-returns-in_err-d : goal.read_folded-returns-in_err-d
read_folded-returns-in_err-d t c =
    mapped_err _ _ _ c.in_err-d.ensures.cases
    (λ f is made. no_head _ _ _ _ _ _ _ (c.read_byte.ensures ∙ ap byte_at (mapped_ok _ c.in_ok-b.ensures.cases)) (search rules) (search rules) (search rules) _ c.read_head.ensures _ (ap head_is is)
    (fold_refused _ _ f (handed_as _ _ _ c.from_residual-in_err-d.ensures.0 c.from_residual-in_err-d.ensures.1 (search rules))))

pub read_folded-read_operands-requires : goal.read_folded-read_operands-requires
read_folded-read_operands-requires t c = search (rules, few-count, one_less)

pub read_folded-returns : goal.read_folded-returns
read_folded-returns t c = search (rules, foldings) depth 12

pub read_operands-loop-due-init : goal.read_operands-loop-due-init
read_operands-loop-due-init t c = search due-begin

pub read_operands-returns-in_err-does : goal.read_operands-returns-in_err-does
read_operands-returns-in_err-does t c = due-refused c.loop-due.invariant (search rules) _ _ c.in_err-does.ensures c.from_residual.ensures.0 c.from_residual.ensures.1

pub read_operands-overflow_sub-left : goal.read_operands-overflow_sub-left
read_operands-overflow_sub-left t c = left-some c.loop-due.invariant (search rules) _ c.in_ok-does.ensures _ c.in-Some.is

pub read_operands-overflow_shl-due-in-Some : goal.read_operands-overflow_shl-due-in-Some
read_operands-overflow_shl-due-in-Some t c = few-operands c.loop-due.invariant (search rules) _ c.in_ok-does.ensures _ c.in-Some.is

pub read_operands-overflow_sub-due-in-Some : goal.read_operands-overflow_sub-due-in-Some
read_operands-overflow_sub-due-in-Some t c = one-due c.loop-due.invariant (search rules) _ c.in_ok-does.ensures _ c.in-Some.is

pub read_operands-loop-due-smaller-in-Some : goal.read_operands-loop-due-smaller-in-Some
read_operands-loop-due-smaller-in-Some t c = due_less c.loop-due.invariant (search rules) _ c.in_ok-does.ensures _ c.in-Some.is

pub read_operands-loop-due-preserved-in-Some : goal.read_operands-loop-due-preserved-in-Some
read_operands-loop-due-preserved-in-Some t c = search (rules, due_again)

pub read_operands-read_folded-requires : goal.read_operands-read_folded-requires
read_operands-read_folded-requires t c = search (rules, left_shallow, left_falls)

pub read_operands-returns-in_err-e-in-None : goal.read_operands-returns-in_err-e-in-None
read_operands-returns-in_err-e-in-None t c = full_refused c.loop-due.invariant (search rules) _ _ c.in_err-e-in-None.ensures c.from_residual-in_err-e-in-None.ensures.0 c.from_residual-in_err-e-in-None.ensures.1

pub read_operands-overflow_sub-left-in-None : goal.read_operands-overflow_sub-left-in-None
read_operands-overflow_sub-left-in-None t c = full_nests c.loop-due.invariant (search rules) _ c.in_ok-does.ensures c.in-None.is

pub read_operands-overflow_sub-due-in-None : goal.read_operands-overflow_sub-due-in-None
read_operands-overflow_sub-due-in-None t c = search (rules, some-due)

pub read_operands-loop-due-smaller : goal.read_operands-loop-due-smaller
read_operands-loop-due-smaller t c = full_less c.loop-due.invariant (search rules) _ c.in_ok-does.ensures c.in-None.is _ _ c.in_ok-e-in-None.ensures

pub read_operands-loop-due-preserved : goal.read_operands-loop-due-preserved
read_operands-loop-due-preserved t c = search (rules, full_again)

pub read_operands-returns : goal.read_operands-returns
read_operands-returns t c = search due-none
