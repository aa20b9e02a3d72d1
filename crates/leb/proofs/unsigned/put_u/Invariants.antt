use Rattle.leb.proofs.Writing.{Written}
use Rattle.leb.proofs.unsigned.put_u.Given as goal

-- the groups so far are written; the number that is left becomes smaller
abbrev pub invariant-loop-rest : goal.invariant-loop-rest
invariant-loop-rest l = Written l.initial.out l.at l.x l.out l.i l.rest

abbrev pub decreases-loop-rest : goal.decreases-loop-rest
decreases-loop-rest l = l.rest
