use Rattle.leb.proofs.Signs.{low_cast, low-is}
use Rattle.leb.proofs.signed.low7.Goals as goal

pub overflow_cast-result : goal.overflow_cast-result
overflow_cast-result c = search low_cast

pub returns : goal.returns
returns c = search low-is
