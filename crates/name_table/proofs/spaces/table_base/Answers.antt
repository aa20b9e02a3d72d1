use Rattle.name_table.proofs.Tables.{base_mul, base_add, base-is}
use Rattle.name_table.proofs.spaces.table_base.Goals as goal

pub overflow_mul-result : goal.overflow_mul-result
overflow_mul-result c = search base_mul

pub overflow_add-result : goal.overflow_add-result
overflow_add-result c = search base_add

pub returns : goal.returns
returns c = search base-is
