use Rattle.module.proofs.Counting.{none_len, some_len}
use Rattle.module.proofs.length.section_len.Goals as goal

pub returns-then-count-eq0 : goal.returns-then-count-eq0
returns-then-count-eq0 c = search none_len

pub returns : goal.returns
returns c = search some_len
