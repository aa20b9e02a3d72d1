use lib.Signed.{mag}
use Rattle.leb.proofs.WritingSigned.{Written}
use Rattle.leb.proofs.signed.put_s.Given as goal

-- the groups so far are written; the integer that is left comes nearer to 0 or -1
abbrev pub invariant-loop-out : goal.invariant-loop-out
invariant-loop-out l = Written l.initial.out l.at l.x l.out l.i l.rest

abbrev pub decreases-loop-out : goal.decreases-loop-out
decreases-loop-out l = mag l.rest
