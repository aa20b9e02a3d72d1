use Rattle.type_table.proofs.Indexed.{add_new, fresh_fits}
use Rattle.type_table.proofs.Indexed.{add_new}
use borrow.Author.Rules.{rules}
use Rattle.type_table.proofs.table.add_type.Goals as goal

pub put_size-requires : goal.put_size-requires
put_size-requires c = search (fresh_fits, rules)

pub returns : goal.returns
returns c = search add_new
