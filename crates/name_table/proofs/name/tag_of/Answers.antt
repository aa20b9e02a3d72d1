use Rattle.name_table.proofs.Walk.{tag_none, tag_is}
use Rattle.name_table.proofs.name.tag_of.Goals as goal

pub returns-then-n-eq0 : goal.returns-then-n-eq0
returns-then-n-eq0 c = search tag_none

pub returns : goal.returns
returns c = search tag_is
