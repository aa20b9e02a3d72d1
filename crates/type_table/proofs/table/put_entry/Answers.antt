use Rattle.type_table.proofs.Indexed.{entry_words_lem}
use Rattle.type_table.proofs.table.put_entry.Goals as goal

pub returns : goal.returns
returns c = search entry_words_lem
