use Rattle.type_table.proofs.Entries.{list_words_lem}
use Rattle.type_table.proofs.entry.put_list.Goals as goal

pub returns : goal.returns
returns c = search (list_words_lem) depth 8
