use Rattle.name_maps.proofs.Maps.{naming_begin, naming_few, naming_room, naming_next, naming_long, naming_again, naming_done}
use borrow.Author.Rules.{rules}
use Rattle.name_maps.proofs.map.put_functions.Goals as goal

pub loop-init : goal.loop-init
loop-init c = search (naming_begin, rules)

pub put_place-x-requires : goal.put_place-x-requires
put_place-x-requires c = (search (naming_room, rules), search naming_few)

pub overflow_add-place : goal.overflow_add-place
overflow_add-place c = search (naming_next, rules)

pub loop-preserved : goal.loop-preserved
loop-preserved c = search (naming_again, rules)

pub shape_of-out : goal.shape_of-out
shape_of-out c = search naming_long

pub returns : goal.returns
returns c = search (naming_done, rules)
