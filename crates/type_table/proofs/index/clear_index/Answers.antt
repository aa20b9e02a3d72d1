use Rattle.type_table.proofs.Indexed.{all-empty}
use Rattle.type_table.proofs.index.clear_index.Goals as goal

pub returns : goal.returns
returns c = search all-empty
