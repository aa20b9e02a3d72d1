use Rattle.type_table.specs.Size.{signature_size}
use borrow.Author.Rules.{rules}
use Rattle.type_table.proofs.size.signature_size.Goals as goal

pub list_size-requires : goal.list_size-requires
unfolding signature_size
list_size-requires c = search rules

pub overflow_add-result : goal.overflow_add-result
unfolding signature_size
overflow_add-result c = search rules

pub list_size-requires-2 : goal.list_size-requires-2
unfolding signature_size
list_size-requires-2 c = search rules

pub overflow_add-result-2 : goal.overflow_add-result-2
unfolding signature_size
overflow_add-result-2 c = search rules

pub returns : goal.returns
unfolding signature_size
returns c = search rules
