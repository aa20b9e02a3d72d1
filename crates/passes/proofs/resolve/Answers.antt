use Rattle.passes.proofs.Stages.{resolve-done, resolve_not}
use borrow.Author.Rules.{rules}
use Rattle.passes.proofs.resolve.Goals as goal

pub returns : goal.returns
returns c = resolve-done _ _ _ _ _ _ _ c.in_ok-tally.ensures (search rules)

pub returns-in_err-tally : goal.returns-in_err-tally
returns-in_err-tally c = search (resolve_not, rules)
