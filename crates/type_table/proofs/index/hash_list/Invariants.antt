use Rattle.type_table.proofs.Hashes.{Hashing}
use Rattle.type_table.proofs.index.hash_list.Given as goal

abbrev pub invariant-loop-t : goal.invariant-loop-t
invariant-loop-t l = Hashing l.s l.named l.initial.h l.initial.at l.initial.left l.at l.left l.h

abbrev pub decreases-loop-t : goal.decreases-loop-t
decreases-loop-t l = l.left
