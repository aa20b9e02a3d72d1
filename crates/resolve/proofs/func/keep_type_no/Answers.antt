use Rattle.kept.proofs.Keeping.{part-order, part-within}
use Rattle.resolve.proofs.Functions.{number-kept}
use borrow.Author.Rules.{rules}
use Rattle.resolve.proofs.func.keep_type_no.Goals as goal

pub slice_bounds-put_type_no-count : goal.slice_bounds-put_type_no-count
slice_bounds-put_type_no-count c = search (part-order, rules)

pub slice_bounds-put_type_no-start : goal.slice_bounds-put_type_no-start
slice_bounds-put_type_no-start c = search (part-order, rules)

pub slice_bounds-put_type_no-end : goal.slice_bounds-put_type_no-end
slice_bounds-put_type_no-end c = search (part-within, rules)

pub returns : goal.returns
returns c = search (number-kept, rules)
