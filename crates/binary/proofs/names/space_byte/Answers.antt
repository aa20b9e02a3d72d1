use Rattle.binary.proofs.Parts.{code_fits}
use Rattle.binary.proofs.names.space_byte.Goals as goal

pub overflow_cast-result : goal.overflow_cast-result
overflow_cast-result c = search code_fits
