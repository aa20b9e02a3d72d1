use Rattle.module.proofs.Sections.{count-some, count_none}
use Rattle.module.proofs.write.put_count.Goals as goal

pub returns-then-flag : goal.returns-then-flag
returns-then-flag c = search count-some

pub returns : goal.returns
returns c = search count_none
