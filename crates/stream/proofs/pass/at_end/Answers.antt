use Rattle.stream.proofs.Loop.{end_in-body, end_accepted}
use Rattle.stream.proofs.pass.at_end.Goals as goal

pub returns-then-p-gt0 : goal.returns-then-p-gt0
returns-then-p-gt0 c = search end_in-body

pub returns : goal.returns
returns c = search end_accepted
