use Rattle.token.proofs.Counts.{counts}
use Rattle.token.proofs.Runs.{string_end, string_in, string-low, string_high}
use Rattle.token.proofs.byte.pass_string.Goals as goal

pub loop-init : goal.loop-init
loop-init c = search counts

pub returns-then-s-here : goal.returns-then-s-here
returns-then-s-here c = search (counts, string_end)

pub returns-then-b-lt32 : goal.returns-then-b-lt32
returns-then-b-lt32 c = search (counts, string-low)

pub returns-then-b-gt126 : goal.returns-then-b-gt126
returns-then-b-gt126 c = search (counts, string_high)

pub loop-preserved : goal.loop-preserved
loop-preserved c = search (counts, string_in)

pub returns : goal.returns
returns c = search counts
