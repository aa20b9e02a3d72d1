use Rattle.interning.proofs.Takes.{ways}
use Rattle.interning.proofs.uses.use_block.Goals as goal

pub returns-then-is_short : goal.returns-then-is_short
returns-then-is_short c = search (ways) depth 8

pub returns : goal.returns
returns c = search (ways) depth 8
