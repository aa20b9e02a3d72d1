use Rattle.area.proofs.Flags.{says-flag}
use Rattle.area.proofs.flag.Goals as goal

pub returns : goal.returns
returns c = search says-flag
