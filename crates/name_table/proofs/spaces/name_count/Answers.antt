use Rattle.name_table.proofs.Tables.{count-place, count-few, count-all}
use Rattle.name_table.proofs.spaces.name_count.Goals as goal

pub overflow_add-space_code : goal.overflow_add-space_code
overflow_add-space_code c = search count-place

pub returns-then-n-lt256 : goal.returns-then-n-lt256
returns-then-n-lt256 c = search (count-few, count-all) depth 12

pub returns : goal.returns
returns c = search (count-few, count-all) depth 12
