use Rattle.next_record.proofs.Steps.{may_begin, may_not_begin}
use Rattle.next_record.proofs.record.too_many.Goals as goal

pub returns-then-begins : goal.returns-then-begins
returns-then-begins c = search (may_begin, may_not_begin) depth 12

pub returns : goal.returns
returns c = search (may_begin, may_not_begin) depth 12
