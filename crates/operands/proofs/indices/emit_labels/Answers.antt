use borrow.Author.Rules.{rules}
use Rattle.syntax.proofs.Ways.{handed}
use Rattle.operands.proofs.Turns.{few-label, labels_are, labels_to, labels_not}
use Rattle.operands.proofs.indices.emit_labels.Goals as goal

pub emit_list-requires : goal.emit_list-requires
emit_list-requires c = search (few-label, rules)

pub returns : goal.returns
returns c = search (labels_to, labels_are, c.in_ok-a.ensures) depth 12

pub returns-in_err-a : goal.returns-in_err-a
returns-in_err-a c = rw (handed _ _ c.from_residual.ensures.0 c.from_residual.ensures.1) (search (labels_not, labels_are, c.in_err-a.ensures) depth 12)
