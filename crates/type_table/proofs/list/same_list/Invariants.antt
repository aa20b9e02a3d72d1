use Rattle.type_table.proofs.Lists.{InStep}
use Rattle.type_table.proofs.list.same_list.Given as goal

abbrev pub invariant-loop-p : goal.invariant-loop-p
invariant-loop-p l = InStep l.s l.named l.initial.x l.other l.initial.y l.x l.y

abbrev pub decreases-loop-p : goal.decreases-loop-p
decreases-loop-p l = l.x.count
