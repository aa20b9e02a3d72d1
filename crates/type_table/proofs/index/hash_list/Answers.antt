use Rattle.type_table.proofs.Hashes.{hash_low}
use borrow.Author.Rules.{rules}
use Rattle.type_table.proofs.Hashes.{hash_begin, hash_again, hash_done}
use Rattle.type_table.proofs.Lists.{next-some, next_less}
use Rattle.type_table.proofs.index.hash_list.Goals as goal

pub loop-t-init : goal.loop-t-init
loop-t-init c = search hash_begin

pub overflow_sub-left : goal.overflow_sub-left
overflow_sub-left c = search (next-some, rules)

pub loop-t-smaller : goal.loop-t-smaller
loop-t-smaller c = search next_less

pub loop-t-preserved : goal.loop-t-preserved
loop-t-preserved c = search hash_again

pub overflow_sub-result : goal.overflow_sub-result
overflow_sub-result c = search (hash_low, rules)

pub returns-in-None : goal.returns-in-None
returns-in-None c = search hash_done
