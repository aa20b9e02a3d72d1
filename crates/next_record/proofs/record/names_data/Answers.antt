use Rattle.next_record.proofs.Naming.{names-told}
use Rattle.next_record.proofs.record.names_data.Goals as goal

pub returns-then-b-eq8 : goal.returns-then-b-eq8
returns-then-b-eq8 c = search names-told

pub returns-then-b-eq9 : goal.returns-then-b-eq9
returns-then-b-eq9 c = search names-told

pub returns-in-Bulk : goal.returns-in-Bulk
returns-in-Bulk c = search names-told
