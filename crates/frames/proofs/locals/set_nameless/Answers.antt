use Rattle.syntax.proofs.Ways.{handed}
use Rattle.frames.proofs.Distinct.{namelesses}
use Rattle.frames.proofs.locals.set_nameless.Goals as goal

pub returns : goal.returns
returns c = search (namelesses, c.in_ok-count.ensures) depth 12

pub returns-in_err-count : goal.returns-in_err-count
returns-in_err-count c = rw (handed _ _ c.from_residual.ensures.0 c.from_residual.ensures.1) (search (namelesses, c.in_err-count.ensures) depth 12)
