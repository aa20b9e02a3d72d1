use Rattle.type_table.proofs.Sizes.{mores}
use Rattle.type_table.proofs.size.count_grows.Goals as goal

pub returns-then-count-eq0 : goal.returns-then-count-eq0
returns-then-count-eq0 c = search mores

pub returns-then-count-eq127 : goal.returns-then-count-eq127
returns-then-count-eq127 c = search mores

pub returns : goal.returns
returns c = search mores
