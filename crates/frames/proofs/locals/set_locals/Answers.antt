use Rattle.frames.proofs.Distinct.{localses}
use Rattle.frames.proofs.locals.set_locals.Goals as goal

pub returns-then-is_inline : goal.returns-then-is_inline
returns-then-is_inline c = search (localses) depth 12

pub returns : goal.returns
returns c = search (localses) depth 12
