use borrow.Author.Rules.{rules}
use Rattle.registration.proofs.Puts.{item-held, item-put}
use Rattle.registration.proofs.item.register_item.Goals as goal

pub returns-in-None : goal.returns-in-None
returns-in-None c = search (item-put, rules)

pub returns-in-Some : goal.returns-in-Some
returns-in-Some c = search (item-held, rules)
