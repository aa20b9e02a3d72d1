use Rattle.passes.proofs.Whole.{begins_on, begins_not}
use Rattle.passes.proofs.Begin.{reads-flag}
use borrow.Author.Rules.{rules}
use Rattle.passes.proofs.read.Goals as goal

pub put_flag-requires : goal.put_flag-requires
put_flag-requires c = search (reads-flag, rules)

pub returns : goal.returns
returns c = search (begins_on, rules)

pub returns-in_err-count : goal.returns-in_err-count
returns-in_err-count c = search (begins_not, rules)
