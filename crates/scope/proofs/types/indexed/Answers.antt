use borrow.Author.Rules.{rules}
use Rattle.scope.proofs.Numbers.{indexes}
use Rattle.scope.proofs.types.indexed.Goals as goal

pub returns : goal.returns
returns c = search (rules, indexes) depth 8

pub returns-in_err-n : goal.returns-in_err-n
returns-in_err-n c = search (rules, indexes) depth 8
