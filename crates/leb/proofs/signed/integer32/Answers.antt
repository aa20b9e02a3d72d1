use borrow.Author.Rules.{rules}
use Rattle.leb.proofs.Signs.{integer_pos, turned-fits, integer_neg}
use Rattle.leb.proofs.signed.integer32.Goals as goal

pub returns-then-x-lt2147483648 : goal.returns-then-x-lt2147483648
returns-then-x-lt2147483648 c = search (integer_pos, rules)

pub overflow_sub-result-2 : goal.overflow_sub-result-2
overflow_sub-result-2 c = search (turned-fits, rules)

pub returns : goal.returns
returns c = search (integer_neg, rules)
