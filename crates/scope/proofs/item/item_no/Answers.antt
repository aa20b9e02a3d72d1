use Rattle.scope.proofs.Items.{item-table, item-few, item-is}
use borrow.Author.Rules.{rules}
use Rattle.scope.proofs.item.item_no.Goals as goal

pub number_in-requires : goal.number_in-requires
number_in-requires c = search (item-table, item-few, rules)

pub returns : goal.returns
returns c = search item-is
