use Rattle.std.proofs.Common.{rules}
use Rattle.stream.proofs.Exported.{told-accepted, told-refused}
use Rattle.stream.proofs.export.barrizuppa_read.Goals as goal

pub returns-in-Ok : goal.returns-in-Ok
returns-in-Ok c = search told-accepted

pub returns-in-Err : goal.returns-in-Err
returns-in-Err c = search (rules, told-refused)
