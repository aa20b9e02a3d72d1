use borrow.Author.Rules.{rules}
use Rattle.type_table.proofs.Lists.{count-begin, count_again, count_fits, count-done, next-some, next_less}
use Rattle.type_table.proofs.list.count_types.Goals as goal

pub loop-next-init : goal.loop-next-init
loop-next-init c = search count-begin

pub overflow_sub-left : goal.overflow_sub-left
overflow_sub-left c = search (next-some, rules)

pub overflow_add-n : goal.overflow_add-n
overflow_add-n c = search (count_fits, rules)

pub loop-next-smaller : goal.loop-next-smaller
loop-next-smaller c = search next_less

pub loop-next-preserved : goal.loop-next-preserved
loop-next-preserved c = search count_again

pub returns-in-None : goal.returns-in-None
returns-in-None c = search count-done
