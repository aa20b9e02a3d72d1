use Rattle.type_table.proofs.Indexed.{hash_words_lem}
use Rattle.type_table.proofs.index.put_hash.Goals as goal

pub returns : goal.returns
returns c = search hash_words_lem
