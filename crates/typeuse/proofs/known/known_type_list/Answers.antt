use Rattle.std.proofs.Common.{rules}
use Rattle.typeuse.proofs.Gets.{types_fit}
use Rattle.typeuse.proofs.known.known_type_list.Goals as goal

pub overflow_add-result : goal.overflow_add-result
overflow_add-result c = types_fit _ _ _ _ _ c.in_ok-count.ensures c.requires (search rules)
