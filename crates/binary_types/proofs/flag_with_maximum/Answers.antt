use Rattle.binary_types.proofs.Ranges.{more_true, more_false}
use Rattle.binary_types.proofs.flag_with_maximum.Goals as goal

pub returns-then-is64 : goal.returns-then-is64
returns-then-is64 c = search (more_true, more_false)

pub returns : goal.returns
returns c = search (more_true, more_false)
