use Rattle.resolve.proofs.Functions.{func-second, func-third, item-func}
use borrow.Author.Rules.{rules}
use Rattle.resolve.proofs.check_item.Goals as goal

pub check_func-requires : goal.check_func-requires
check_func-requires c = (search rules, search (func-second, rules), func-third _ c.args.p.seen _ _ _ c.in-Some.ensures _ _ _ c.requires.2)

pub returns-in-Some : goal.returns-in-Some
returns-in-Some c = search (item-func, rules)
