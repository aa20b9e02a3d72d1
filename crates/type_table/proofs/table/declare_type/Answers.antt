use borrow.Author.Rules.{rules}
use Rattle.type_table.proofs.Indexed.{none_found, some-found}
use Rattle.type_table.proofs.Hashes.{hash_told}
use Rattle.type_table.proofs.table.declare_type.Goals as goal

pub find_type-requires : goal.find_type-requires
find_type-requires c = search (hash_told, rules)

pub add_again-requires : goal.add_again-requires
add_again-requires c = search (some-found, rules)

pub add_type-requires : goal.add_type-requires
add_type-requires c = search (none_found, rules)
