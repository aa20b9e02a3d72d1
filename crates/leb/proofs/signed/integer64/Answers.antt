use borrow.Author.Rules.{rules}
use Rattle.leb.proofs.Signs.{integer_pos, turned-fits, integer_neg}
use Rattle.leb.proofs.signed.integer64.Goals as goal

pub returns-then-x-lt9223372036854775808 : goal.returns-then-x-lt9223372036854775808
returns-then-x-lt9223372036854775808 c = search (integer_pos, rules)

pub overflow_sub-result-2 : goal.overflow_sub-result-2
overflow_sub-result-2 c = search (turned-fits, rules)

pub returns : goal.returns
returns c = search (integer_neg, rules)
