use borrow.Author.Rules.{rules}
use Rattle.kept.proofs.Emitting.{section-next, part-begins, part-ends, part-emits}
use Rattle.kept.proofs.parts.emit_kept.Goals as goal

pub overflow_add-k : goal.overflow_add-k
overflow_add-k c = search (section-next, rules)

pub slice_bounds-emit_entry-count : goal.slice_bounds-emit_entry-count
slice_bounds-emit_entry-count c = search (part-begins, rules)

pub slice_bounds-emit_entry-start : goal.slice_bounds-emit_entry-start
slice_bounds-emit_entry-start c = search (part-begins, rules)

pub slice_bounds-emit_entry-end : goal.slice_bounds-emit_entry-end
slice_bounds-emit_entry-end c = search (part-ends, rules)

pub returns : goal.returns
returns c = search (part-emits, rules)
