use Rattle.kept.proofs.Keeping.{part-order, part-within}
use Rattle.resolve.proofs.Functions.{own_body, own-head, code-kept}
use borrow.Author.Rules.{rules}
use Rattle.resolve.proofs.func.keep_code.Goals as goal

pub slice_bounds-emit_typed-count : goal.slice_bounds-emit_typed-count
slice_bounds-emit_typed-count c = search (part-order, rules)

pub slice_bounds-emit_typed-start : goal.slice_bounds-emit_typed-start
slice_bounds-emit_typed-start c = search (part-order, rules)

pub slice_bounds-emit_typed-end : goal.slice_bounds-emit_typed-end
slice_bounds-emit_typed-end c = search (part-within, rules)

pub emit_typed-requires : goal.emit_typed-requires
emit_typed-requires c = (search rules, search (own_body, rules), search (own-head, rules))

pub returns : goal.returns
returns c = search (code-kept, rules)
