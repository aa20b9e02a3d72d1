use borrow.Author.Rules.{rules}
use Rattle.kept.proofs.Keeping.{part-order, part-within}
use Rattle.module.proofs.Kept.{part_end, part-put}
use Rattle.module.proofs.write.put_entries.Goals as goal

pub overflow_sub-b : goal.overflow_sub-b
overflow_sub-b c = search (part-order, rules)

pub slice_bounds-copy-end : goal.slice_bounds-copy-end
slice_bounds-copy-end c = search (part_end, part-within, rules)

pub returns-then-size-b : goal.returns-then-size-b
returns-then-size-b c = search part-put
