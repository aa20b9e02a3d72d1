use Rattle.next_record.proofs.Steps.{on_is}
use Rattle.next_record.proofs.record.on.Goals as goal

pub returns : goal.returns
returns g c = search on_is
