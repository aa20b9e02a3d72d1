use Rattle.plain.proofs.Plains.{targets}
use Rattle.plain.proofs.record.emit_index.Goals as goal

pub returns-in-Label : goal.returns-in-Label
returns-in-Label c = search (targets) depth 12

pub returns-in-Local : goal.returns-in-Local
returns-in-Local c = search (targets) depth 12

pub returns-in-Item : goal.returns-in-Item
returns-in-Item c = search (targets) depth 12
