use Rattle.name_table.proofs.Holders.{definers_mul, definers_add, definers-is}
use Rattle.name_table.proofs.definers.definers_base.Goals as goal

pub overflow_mul-result : goal.overflow_mul-result
overflow_mul-result c = search definers_mul

pub overflow_add-result : goal.overflow_add-result
overflow_add-result c = search definers_add

pub returns : goal.returns
returns c = search definers-is
