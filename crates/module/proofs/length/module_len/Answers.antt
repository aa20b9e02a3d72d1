use Rattle.module.proofs.Counting.{all_len}
use Rattle.module.proofs.length.module_len.Goals as goal

pub returns : goal.returns
returns c = search all_len
