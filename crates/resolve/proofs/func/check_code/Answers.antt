use borrow.Author.Rules.{rules}
use Rattle.resolve.proofs.Functions.{code-fine, code_not}
use Rattle.resolve.proofs.func.check_code.Goals as goal

pub returns : goal.returns
returns c = search (code-fine, rules)

pub returns-in_err-to : goal.returns-in_err-to
returns-in_err-to c = code_not _ _ _ _ _ _ _ _ _ _ _ _ _ _ _ c.in_err-to.ensures c.from_residual.ensures.0 c.from_residual.ensures.1
