use Rattle.token.proofs.Counts.{counts}
use Rattle.token.proofs.Runs.{id_end, id_in, id_out}
use Rattle.token.proofs.byte.pass_idchars.Goals as goal

pub loop-init : goal.loop-init
loop-init c = search counts

pub returns-then-s-here : goal.returns-then-s-here
returns-then-s-here c = search (counts, id_end)

pub returns-then-not-is_idchar : goal.returns-then-not-is_idchar
returns-then-not-is_idchar c = search (counts, id_out)

pub loop-preserved : goal.loop-preserved
loop-preserved c = search (counts, id_in)

pub returns : goal.returns
returns c = search counts
