use Rattle.operands.proofs.Numbers.{items-none, items-one, items_two}
use Rattle.operands.proofs.items.emit_items.Goals as goal

pub returns-in-None : goal.returns-in-None
returns-in-None c = search (items-none, items-one, items_two) depth 8

pub returns-in-One : goal.returns-in-One
returns-in-One c = search (items-none, items-one, items_two) depth 8

pub returns-in-Two : goal.returns-in-Two
returns-in-Two c = search (items-none, items-one, items_two) depth 8
