use Rattle.type_table.proofs.Entries.{entry_in_lem}
use Rattle.type_table.proofs.entry.type_at.Goals as goal

pub returns : goal.returns
returns c = search (entry_in_lem) depth 8
