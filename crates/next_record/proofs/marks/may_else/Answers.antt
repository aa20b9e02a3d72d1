use Rattle.next_record.proofs.Bits.{else_outside, else_innermost}
use Rattle.next_record.proofs.marks.may_else.Goals as goal

pub returns-then-depth-lt2 : goal.returns-then-depth-lt2
returns-then-depth-lt2 c = search else_outside

pub returns : goal.returns
returns c = search else_innermost
