use Rattle.type_table.proofs.Entries.{flag_word}
use Rattle.type_table.proofs.entry.put_flag.Goals as goal

pub returns : goal.returns
returns c = search (flag_word) depth 8
