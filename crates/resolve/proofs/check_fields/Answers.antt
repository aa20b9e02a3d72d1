use borrow.Author.Rules.{rules}
use Rattle.resolve.proofs.Checking.{check-refused}
use Rattle.resolve.proofs.check_fields.Goals as goal

pub returns-in_err-check_all : goal.returns-in_err-check_all
returns-in_err-check_all c = search (check-refused, rules)
