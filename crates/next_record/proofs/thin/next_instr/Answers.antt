use Rattle.next_record.proofs.Skims.{by_innermost}
use Rattle.next_record.proofs.thin.next_instr.Goals as goal

pub returns : goal.returns
returns c = search by_innermost
