use Rattle.next_record.specs.Places.{record_past}
use borrow.Author.Rules.{rules}
use Rattle.next_record.proofs.record.after_record.Goals as goal

pub returns : goal.returns
unfolding record_past
returns c = search rules
