use Rattle.type_table.proofs.Lists.{Counting}
use Rattle.type_table.proofs.list.count_types.Given as goal

abbrev pub invariant-loop-next : goal.invariant-loop-next
invariant-loop-next l = Counting l.s l.named l.initial.at l.initial.left l.at l.left l.n

abbrev pub decreases-loop-next : goal.decreases-loop-next
decreases-loop-next l = l.left
