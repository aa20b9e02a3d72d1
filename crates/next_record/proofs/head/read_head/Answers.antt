use Rattle.next_record.proofs.Folding.{head-got, head_not, head_handed}
use mathlib.Core.Path.{refl}
use Rattle.next_record.proofs.head.read_head.Goals as goal

pub returns-in_err-n : goal.returns-in_err-n
returns-in_err-n c = head_not _ _ _ _ _ c.in_err-n.ensures (head_handed _ _ c.from_residual.ensures.0 c.from_residual.ensures.1)

pub returns : goal.returns
returns c = head-got _ _ _ _ _ _ _ c.in_ok-n.ensures c.operator_does.ensures refl
