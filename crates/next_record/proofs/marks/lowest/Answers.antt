use Rattle.next_record.proofs.Bits.{innermost_is}
use Rattle.next_record.proofs.marks.lowest.Goals as goal

pub returns : goal.returns
returns c = search innermost_is
