use Rattle.binary_types.proofs.Ranges.{without_maximum, with_maximum}
use Rattle.binary_types.proofs.put_limits.Goals as goal

pub returns-in-None : goal.returns-in-None
returns-in-None c = search (without_maximum, with_maximum) depth 12

pub returns-in-Some : goal.returns-in-Some
returns-in-Some c = search (without_maximum, with_maximum) depth 12
