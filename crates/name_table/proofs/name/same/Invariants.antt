use Prim.Native.Nat.{◌-◌}
use Rattle.name_table.proofs.Walk.{Same}
use lib.ListN.{length}
use Rattle.name_table.proofs.name.same.Given as goal

abbrev pub invariant-loop-i : goal.invariant-loop-i
invariant-loop-i l = Same l.a l.b l.i

abbrev pub decreases-loop-i : goal.decreases-loop-i
decreases-loop-i l = length l.a - l.i
