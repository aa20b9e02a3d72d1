use Rattle.syntax.proofs.Ways.{handed}
use Rattle.plain.proofs.Turns.{goes_to, goes_not}
use Rattle.plain.proofs.turn.go_on.Goals as goal

pub returns : goal.returns
returns c = search (goes_to, c.in_ok-o.was) depth 12

pub returns-in_err-o : goal.returns-in_err-o
returns-in_err-o c = rw (handed _ _ c.from_residual.ensures.0 c.from_residual.ensures.1) (search (goes_not, c.in_err-o.was) depth 12)
