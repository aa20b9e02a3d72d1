use Rattle.function.proofs.Laws.{typed_not, typed-few, typed_long, typed-resolvable, typed_to}
use borrow.Author.Rules.{rules}
use Rattle.function.proofs.emit_typed.Goals as goal

pub emit_sized-requires : goal.emit_sized-requires
emit_sized-requires c = (search (typed_long, rules), search (typed-few, rules), search rules, search (typed-resolvable, rules), search rules)

pub returns : goal.returns
returns c = typed_to _ _ _ _ _ _ _ _ _ c.in_ok-l.ensures _ _ _ _ _ c.emit_sized.ensures

pub returns-in_err-l : goal.returns-in_err-l
returns-in_err-l c = typed_not _ _ _ _ _ _ _ _ _ _ _ _ c.in_err-l.ensures c.from_residual.ensures.0 c.from_residual.ensures.1
