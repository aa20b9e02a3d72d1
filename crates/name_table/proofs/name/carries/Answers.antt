use Rattle.name_table.proofs.Walk.{carries-other, carries-none, carries_same}
use Rattle.name_table.proofs.name.carries.Goals as goal

pub returns-then-work-at : goal.returns-then-work-at
returns-then-work-at c = search carries-other

pub returns-then-len-eq0 : goal.returns-then-len-eq0
returns-then-len-eq0 c = search carries-none

pub returns : goal.returns
returns c = search carries_same
