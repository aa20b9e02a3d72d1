use Rattle.module.proofs.Counting.{start_len, counted_len}
use Rattle.module.proofs.length.content_len.Goals as goal

pub returns-then-k-eq-START : goal.returns-then-k-eq-START
returns-then-k-eq-START c = search start_len

pub returns : goal.returns
returns c = search counted_len
