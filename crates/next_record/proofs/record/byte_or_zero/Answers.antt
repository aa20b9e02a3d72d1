use Rattle.laws.proofs.Readers.{get_or_out}
use Rattle.next_record.proofs.record.byte_or_zero.Goals as goal

pub returns : goal.returns
returns c = search get_or_out
