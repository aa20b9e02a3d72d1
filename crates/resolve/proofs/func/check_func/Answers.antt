use Rattle.resolve.proofs.Functions.{func_use, func-both, func_not}
use borrow.Author.Rules.{rules}
use Rattle.resolve.proofs.func.check_func.Goals as goal

pub type_no-requires : goal.type_no-requires
type_no-requires c = (search rules, search (func_use, rules))

pub returns : goal.returns
returns c = func-both _ _ _ _ _ _ _ _ _ _ _ _ _ _ c.in_ok-n.ensures c.keep_type_no.ensures c.check_code.ensures

pub returns-in_err-n : goal.returns-in_err-n
returns-in_err-n c = search (func_not, rules)
