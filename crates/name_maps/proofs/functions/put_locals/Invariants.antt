use Rattle.name_maps.proofs.Walking.{Walking}
use Rattle.name_maps.proofs.functions.put_locals.Given as goal

abbrev pub invariant-loop-f : goal.invariant-loop-f
invariant-loop-f l = Walking l.s l.work l.initial.out l.at l.c l.x l.out

abbrev pub decreases-loop-f : goal.decreases-loop-f
decreases-loop-f l = l.c.left
