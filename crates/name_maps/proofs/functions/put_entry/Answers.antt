use Rattle.name_maps.proofs.Locals.{entry-none, entry-some}
use Rattle.name_maps.proofs.functions.put_entry.Goals as goal

pub returns-then-count-eq0 : goal.returns-then-count-eq0
returns-then-count-eq0 c = search entry-none

pub returns : goal.returns
returns c = search entry-some
