use Rattle.walk.proofs.Steps.{visit_less}
use Rattle.name_maps.proofs.Walking.{walking_begin, walking_few, walking_long, walking_done, walking_uses, walking_again}
use borrow.Author.Rules.{rules}
use Rattle.name_maps.proofs.functions.put_locals.Goals as goal

pub loop-f-init : goal.loop-f-init
loop-f-init c = search walking_begin

pub put_function-x-requires : goal.put_function-x-requires
put_function-x-requires c = (search rules, search walking_uses, search walking_few)

pub loop-f-smaller : goal.loop-f-smaller
loop-f-smaller c = search visit_less

pub loop-f-preserved : goal.loop-f-preserved
loop-f-preserved c = search walking_again

pub shape_of-out-in-None : goal.shape_of-out-in-None
shape_of-out-in-None c = search walking_long

pub returns-in-None : goal.returns-in-None
returns-in-None c = search walking_done
