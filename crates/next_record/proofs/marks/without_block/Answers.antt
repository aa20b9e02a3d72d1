use Rattle.next_record.proofs.Bits.{ended-low, down_fits}
use Rattle.next_record.proofs.marks.without_block.Goals as goal

pub overflow_add-result : goal.overflow_add-result
overflow_add-result c = search down_fits

pub returns : goal.returns
returns c = search ended-low
