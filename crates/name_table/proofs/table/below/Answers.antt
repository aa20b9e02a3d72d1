use Rattle.name_table.proofs.Walk.{belows}
use Rattle.name_table.proofs.table.below.Goals as goal

pub returns-then-flag : goal.returns-then-flag
returns-then-flag c = search (belows) depth 8

pub returns-else-flag : goal.returns-else-flag
returns-else-flag c = search (belows) depth 8

pub returns-else-limit-n : goal.returns-else-limit-n
returns-else-limit-n c = search (belows) depth 8
