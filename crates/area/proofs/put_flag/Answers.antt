use Rattle.area.proofs.Flags.{puts_flag}
use Rattle.area.proofs.put_flag.Goals as goal

pub returns : goal.returns
returns c = search puts_flag
