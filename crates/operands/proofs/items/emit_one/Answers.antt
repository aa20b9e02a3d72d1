use Rattle.operands.proofs.Numbers.{one-unread, one-read}
use Rattle.operands.proofs.items.emit_one.Goals as goal

pub returns-in-Ok : goal.returns-in-Ok
returns-in-Ok c = search (one-read) depth 8

pub returns-in-Err : goal.returns-in-Err
returns-in-Err c = search (one-unread) depth 8
