use borrow.Author.Rules.{rules}
use Rattle.emit.specs.Put.{past}
use Rattle.emit.proofs.tally.Goals as goal

pub returns-then-a-ge9223372036854775808 : goal.returns-then-a-ge9223372036854775808
unfolding past
returns-then-a-ge9223372036854775808 c = search rules

pub returns-then-a-b : goal.returns-then-a-b
unfolding past
returns-then-a-b c = search rules

pub returns : goal.returns
unfolding past
returns c = search rules
