use Prim.Native.Nat.{◌-◌}
use Rattle.area.proofs.Cleared.{Cleared}
use lib.ListN.{length}
use Rattle.area.proofs.clear.Given as goal

abbrev pub invariant-loop-i : goal.invariant-loop-i
invariant-loop-i l = Cleared l.initial.work l.work l.i

abbrev pub decreases-loop-i : goal.decreases-loop-i
decreases-loop-i l = length l.initial.work - l.i
