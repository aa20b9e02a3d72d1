use Rattle.passes.proofs.Whole.{named-ready, find-done, find_not}
use borrow.Author.Rules.{rules}
use Rattle.passes.proofs.find.Goals as goal

pub resolve-requires : goal.resolve-requires
resolve-requires c = search (named-ready, rules)

pub returns : goal.returns
returns c = search (find-done, rules)

pub returns-in_err-intern : goal.returns-in_err-intern
returns-in_err-intern c = search (find_not, rules)
