use Rattle.type_table.specs.Size.{list_size}
use borrow.Author.Rules.{rules}
use Rattle.type_table.proofs.size.list_size.Goals as goal

pub overflow_cast-groups : goal.overflow_cast-groups
unfolding list_size
overflow_cast-groups c = search rules

pub overflow_add-result : goal.overflow_add-result
unfolding list_size
overflow_add-result c = search rules

pub returns : goal.returns
unfolding list_size
returns c = search rules
