use Rattle.laws.proofs.Readers.{get_or_out}
use Rattle.area.proofs.word.Goals as goal

pub returns : goal.returns
returns c = search get_or_out
