use Rattle.next_record.proofs.Folding.{head_handed}
use Rattle.next_record.proofs.Heads.{no_operator, no_operands, no_count, with_count}
use mathlib.Core.Path.{refl}
use Rattle.next_record.proofs.head.quick_head.Goals as goal

pub returns-in_err-b : goal.returns-in_err-b
returns-in_err-b c = no_operator _ _ _ _ _ c.in_err-b.ensures (head_handed _ _ c.from_residual.ensures.0 c.from_residual.ensures.1)

pub returns-in_err-c-in-Some : goal.returns-in_err-c-in-Some
returns-in_err-c-in-Some c = no_operands _ _ _ _ _ _ c.in_ok-b.ensures _ c.often_after.ensures _ c.in-Some.is _ c.in_err-c-in-Some.ensures (head_handed _ _ c.from_residual-in_err-c-in-Some.ensures.0 c.from_residual-in_err-c-in-Some.ensures.1)

pub returns-in_err-n-in-Some : goal.returns-in_err-n-in-Some
returns-in_err-n-in-Some c = no_count _ _ _ _ _ _ c.in_ok-b.ensures _ c.often_after.ensures _ c.in-Some.is _ c.in_ok-c-in-Some.ensures _ c.in_err-n-in-Some.ensures (head_handed _ _ c.from_residual-in_err-n-in-Some.ensures.0 c.from_residual-in_err-n-in-Some.ensures.1)

pub returns-in_ok-n-in-Some : goal.returns-in_ok-n-in-Some
returns-in_ok-n-in-Some c = with_count _ _ _ _ _ _ c.in_ok-b.ensures _ c.often_after.ensures _ c.in-Some.is _ c.in_ok-c-in-Some.ensures _ _ c.in_ok-n-in-Some.ensures refl
