use Rattle.std.proofs.Common.{rules}
use mathlib.Core.Path.{refl, ap, sym, ◌∙◌}
use Rattle.syntax.specs.Tokens.{byte_at}
use Rattle.next_record.specs.Folds.{head_is}
use Rattle.next_record.proofs.Steps.{mapped_ok, mapped_err, handed_as}
use Rattle.next_record.proofs.Folding.{no_byte, no_head}
use Rattle.next_record.proofs.Along.{next-handed, next_here, nexts, few_bits}
use Rattle.next_record.proofs.head.read_next.Goals as goal

pub returns-in_err-b : goal.returns-in_err-b
returns-in_err-b c =
    mapped_err _ _ _ c.in_err-b.ensures.cases
    (λ f is made. next-handed _ _ _ _ _ _ f (handed_as _ _ _ c.from_residual.ensures.0 c.from_residual.ensures.1 (search rules)) (no_byte _ _ _ _ _ _ (c.read_byte.ensures ∙ ap byte_at is) refl))

pub returns-then-b : goal.returns-then-b
returns-then-b c = search (rules, nexts) depth 12

pub returns-then-p-ge4096 : goal.returns-then-p-ge4096
returns-then-p-ge4096 c = search (rules, nexts) depth 12

pub returns-in_err-d : goal.returns-in_err-d
returns-in_err-d c =
    mapped_err _ _ _ c.in_err-d.ensures.cases
    (λ f is made. next-handed _ _ _ _ _ _ f (handed_as _ _ _ c.from_residual-in_err-d.ensures.0 c.from_residual-in_err-d.ensures.1 (search rules))
    (no_head _ _ _ _ _ _ _ (c.read_byte.ensures ∙ ap byte_at (mapped_ok _ c.in_ok-b.ensures.cases)) (search rules) (search rules) (search rules) _ c.quick_head.ensures _ (ap head_is is) refl))

pub overflow_shr-n : goal.overflow_shr-n
overflow_shr-n c = few_bits _ _ _ _ _ _ (ap head_is (sym (mapped_ok _ c.in_ok-d.ensures.cases)) ∙ c.quick_head.ensures)

pub returns-then-n-due : goal.returns-then-n-due
returns-then-n-due c = search (rules, nexts) depth 12

pub returns : goal.returns
returns c =
    next_here _ _ _ _ _ _ _ (c.read_byte.ensures ∙ ap byte_at (mapped_ok _ c.in_ok-b.ensures.cases)) (search rules) (search rules) (search rules) _ c.quick_head.ensures _ _ _ _ (ap head_is (mapped_ok _ c.in_ok-d.ensures.cases)) (search rules)
    c.after_record.ensures
