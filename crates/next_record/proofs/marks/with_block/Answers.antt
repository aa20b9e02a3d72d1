use Rattle.next_record.proofs.Bits.{opened_if, opened-other, up_fits}
use Rattle.next_record.proofs.marks.with_block.Goals as goal

pub overflow_add-high : goal.overflow_add-high
overflow_add-high c = search up_fits

pub returns-then-may : goal.returns-then-may
returns-then-may c = search opened_if

pub returns : goal.returns
returns c = search opened-other
