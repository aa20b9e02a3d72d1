use Rattle.type_table.proofs.Sizes.{size_words_lem}
use Rattle.type_table.proofs.size.put_size.Goals as goal

pub returns : goal.returns
returns c = search size_words_lem
