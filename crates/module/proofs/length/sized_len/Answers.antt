use Rattle.module.proofs.Counting.{sized_len_lem}
use Rattle.module.proofs.length.sized_len.Goals as goal

pub returns : goal.returns
returns c = search sized_len_lem
