use Rattle.module.proofs.Counting.{count-some, count_none}
use Rattle.module.proofs.length.count_len.Goals as goal

pub returns-then-flag : goal.returns-then-flag
returns-then-flag c = search count-some

pub returns : goal.returns
returns c = search count_none
