use Rattle.type_table.proofs.Entries.{type_words_lem}
use Rattle.type_table.proofs.entry.put_type.Goals as goal

pub returns : goal.returns
returns c = search (type_words_lem) depth 8
