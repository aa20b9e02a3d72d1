use Rattle.type_table.proofs.Entries.{same_not, same-results}
use Rattle.type_table.proofs.entry.same_type.Goals as goal

pub returns-then-same_list : goal.returns-then-same_list
returns-then-same_list c = search (same_not, same-results)

pub returns : goal.returns
returns c = search (same_not, same-results)
