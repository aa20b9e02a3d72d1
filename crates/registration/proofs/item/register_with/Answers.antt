use Rattle.registration.proofs.Items.{fits}
use Rattle.registration.proofs.Puts.{first_done, first-refused}
use borrow.Author.Rules.{rules}
use Rattle.registration.proofs.item.register_with.Goals as goal

pub register_item-requires : goal.register_item-requires
register_item-requires c = search (fits, rules)

pub register_item-requires-2 : goal.register_item-requires-2
register_item-requires-2 c = search (fits, rules)

pub returns : goal.returns
returns c = search (first_done, first-refused, rules) depth 12

pub returns-in_err-register_item : goal.returns-in_err-register_item
returns-in_err-register_item c =
    first-refused _ _ _ _ _ _ _ _ _ c.register_item.ensures c.nameless.ensures _ _ _ c.in_err-register_item.was c.from_residual.ensures.0 c.from_residual.ensures.1
