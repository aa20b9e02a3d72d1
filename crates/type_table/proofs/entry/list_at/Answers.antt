use Rattle.type_table.proofs.Entries.{list_in_lem}
use Rattle.type_table.proofs.entry.list_at.Goals as goal

pub returns : goal.returns
returns c = search (list_in_lem) depth 8
