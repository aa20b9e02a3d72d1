use Rattle.assembler.proofs.Exported.{lent-long, len_fits, hands_on}
use Rattle.assembler.proofs.export.answered.Goals as goal

pub slice_bounds-call-end-2 : goal.slice_bounds-call-end-2
slice_bounds-call-end-2 c = search lent-long

pub overflow_cast-len : goal.overflow_cast-len
overflow_cast-len c = search len_fits

pub returns : goal.returns
returns c = search hands_on
