use Rattle.resolve.proofs.Checking.{rest-second, rest-third, rest-item, rest-none}
use borrow.Author.Rules.{rules}
use Rattle.resolve.proofs.check_rest.Goals as goal

pub check_item-requires : goal.check_item-requires
check_item-requires c = (search rules, rest-second _ _ _ _ _ c.args.p.here _ c.in-Some.ensures c.requires.1, rest-third _ _ _ _ c.args.p.seen _ _ c.in-Some.ensures c.requires.2)

pub returns-in-Some : goal.returns-in-Some
returns-in-Some c = search (rest-item, rules)

pub returns-in-None : goal.returns-in-None
returns-in-None c = search (rest-none, rules)
