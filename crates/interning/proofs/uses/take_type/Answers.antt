use Rattle.interning.proofs.Handled.{handing}
use Rattle.interning.proofs.Takes.{takes}
use borrow.Author.Rules.{rules}
use Rattle.interning.proofs.uses.take_type.Goals as goal

pub returns : goal.returns
returns c = search (takes, handing, rules) depth 10

pub returns-in_err-n : goal.returns-in_err-n
returns-in_err-n c = search (takes, handing, rules) depth 10
