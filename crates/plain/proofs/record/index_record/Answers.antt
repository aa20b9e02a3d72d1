use Rattle.plain.proofs.Plains.{index-unread, index_read}
use Rattle.plain.proofs.record.index_record.Goals as goal

pub returns-in-Ok : goal.returns-in-Ok
returns-in-Ok c = search (index_read) depth 12

pub returns-in-Err : goal.returns-in-Err
returns-in-Err c = search (index-unread) depth 12
