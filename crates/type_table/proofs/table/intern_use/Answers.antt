use Rattle.type_table.proofs.Hashes.{hash_told}
use borrow.Author.Rules.{rules}
use Rattle.type_table.proofs.Known.{use_readable}
use Rattle.type_table.proofs.Types.{intern_takes}
use Rattle.type_table.proofs.Indexed.{none-used}
use Rattle.type_table.proofs.table.intern_use.Goals as goal

pub hash_of-h-requires : goal.hash_of-h-requires
hash_of-h-requires c = search (use_readable, rules)

pub find_type-requires : goal.find_type-requires
find_type-requires c = search (hash_told, use_readable, rules)

pub add_use-requires : goal.add_use-requires
add_use-requires c = (search rules, search rules, search (none-used, use_readable))

pub returns-in-Some : goal.returns-in-Some
returns-in-Some c = search intern_takes
