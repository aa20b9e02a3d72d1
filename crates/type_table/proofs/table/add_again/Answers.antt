use Rattle.type_table.proofs.Indexed.{add_again_lem, again_fits}
use borrow.Author.Rules.{rules}
use Rattle.type_table.proofs.table.add_again.Goals as goal

pub put_size-requires : goal.put_size-requires
put_size-requires c = search (again_fits, rules)

pub returns : goal.returns
returns c = search add_again_lem
