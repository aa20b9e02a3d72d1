use Rattle.plain.proofs.Plains.{other-unread, other-read}
use Rattle.plain.proofs.record.other_record.Goals as goal

pub returns-in-Ok : goal.returns-in-Ok
returns-in-Ok c = search (other-read) depth 12

pub returns-in-Err : goal.returns-in-Err
returns-in-Err c = search (other-unread) depth 12
