use Prim.Native.Nat.{◌-◌}
use Rattle.emit.proofs.Stored.{Stored}
use Rattle.emit.proofs.copy.Given as goal

-- `i` bytes are stored; those that are left to store become fewer
abbrev pub invariant-loop-i : goal.invariant-loop-i
invariant-loop-i l = Stored l.initial.out l.at l.from l.out l.i

abbrev pub decreases-loop-i : goal.decreases-loop-i
decreases-loop-i l = l.fits - l.i
