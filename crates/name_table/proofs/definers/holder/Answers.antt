use Rattle.name_table.proofs.Holders.{held-table, held_place, helds}
use Rattle.name_table.proofs.definers.holder.Goals as goal

pub returns-then-id-eq0 : goal.returns-then-id-eq0
returns-then-id-eq0 c = search (helds) depth 12

pub find_name-requires : goal.find_name-requires
find_name-requires c = search held-table

pub overflow_add-definers_base : goal.overflow_add-definers_base
overflow_add-definers_base c = search held_place

pub returns-in-Some : goal.returns-in-Some
returns-in-Some c = search (helds) depth 12

pub returns-in-None : goal.returns-in-None
returns-in-None c = search (helds) depth 12
