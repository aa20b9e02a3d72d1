use Rattle.scope.proofs.Items.{limit-types, limit_others, count_fits}
use Rattle.scope.proofs.item.limit_of.Goals as goal

pub returns-then-space_code : goal.returns-then-space_code
returns-then-space_code c = search limit-types

pub overflow_cast-result : goal.overflow_cast-result
overflow_cast-result c = search count_fits

pub returns : goal.returns
returns c = search limit_others
