use borrow.Author.Rules.{rules}
use Rattle.syntax.proofs.Ways.{handed}
use Rattle.frames.proofs.Entries.{putting_begin, putting_readable, putting_area, putting_room, puttings}
use Rattle.frames.proofs.locals.put_locals.Goals as goal

pub loop-init : goal.loop-init
loop-init c = search putting_begin

pub known_local-requires : goal.known_local-requires
known_local-requires c = search putting_readable

pub put_local-requires : goal.put_local-requires
put_local-requires c = search (putting_room, putting_area, rules)

pub loop-preserved : goal.loop-preserved
loop-preserved c = search (puttings, c.in_ok-count.ensures) depth 12

pub returns-in_err-count : goal.returns-in_err-count
returns-in_err-count c = rw (handed _ _ c.from_residual.ensures.0 c.from_residual.ensures.1) (search (puttings, c.in_err-count.ensures) depth 12)

pub returns-in_default : goal.returns-in_default
returns-in_default c = search (puttings) depth 12

pub returns : goal.returns
returns c = search (puttings) depth 12
