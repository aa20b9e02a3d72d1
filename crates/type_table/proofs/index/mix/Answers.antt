use Rattle.type_table.specs.Hash.{mixed}
use Rattle.type_table.proofs.Hashes.{products}
use mathlib.Core.Path.{refl}
use Rattle.type_table.proofs.index.mix.Goals as goal

pub overflow_mul-result : goal.overflow_mul-result
overflow_mul-result c = search products

pub overflow_add-result : goal.overflow_add-result
overflow_add-result c = search products

pub overflow_add-result-2 : goal.overflow_add-result-2
overflow_add-result-2 c = search products

pub returns : goal.returns
unfolding mixed
returns c = refl
