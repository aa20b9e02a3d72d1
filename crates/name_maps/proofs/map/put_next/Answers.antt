use Rattle.name_maps.proofs.Maps.{next-none, next-some}
use Rattle.name_maps.proofs.map.put_next.Goals as goal

pub returns-then-id-eq0 : goal.returns-then-id-eq0
returns-then-id-eq0 c = search next-none

pub returns : goal.returns
returns c = search next-some
