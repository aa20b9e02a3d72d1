use Rattle.next_record.proofs.Bits.{elsed-low}
use Rattle.next_record.proofs.marks.without_else.Goals as goal

pub returns : goal.returns
returns c = search elsed-low
