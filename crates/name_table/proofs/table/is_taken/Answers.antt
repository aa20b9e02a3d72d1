use Rattle.name_table.proofs.Walk.{takens}
use Rattle.name_table.proofs.table.is_taken.Goals as goal

pub returns-then-id-eq0 : goal.returns-then-id-eq0
returns-then-id-eq0 c = search (takens) depth 12

pub returns-in-Some : goal.returns-in-Some
returns-in-Some c = search (takens) depth 12

pub returns-in-None : goal.returns-in-None
returns-in-None c = search (takens) depth 12
