use Rattle.leb.proofs.Floor.{up_fits, quot_fits, down_fits, floor_neg, quot_up_fits, floor_pos}
use borrow.Author.Rules.{rules}
use Rattle.leb.proofs.signed.over128.Goals as goal

pub overflow_add-result : goal.overflow_add-result
overflow_add-result c = search up_fits

pub nonzero_div-result : goal.nonzero_div-result
nonzero_div-result c = search (quot_fits, rules)

pub overflow_sub-result : goal.overflow_sub-result
overflow_sub-result c = search down_fits

pub returns-then-x-lt0 : goal.returns-then-x-lt0
returns-then-x-lt0 c = search floor_neg

pub nonzero_div-result-2 : goal.nonzero_div-result-2
nonzero_div-result-2 c = search (quot_up_fits, rules)

pub returns : goal.returns
returns c = search floor_pos
