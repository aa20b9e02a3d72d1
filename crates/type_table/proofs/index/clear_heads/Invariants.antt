use Prim.Native.Nat.{◌-◌}
use Rattle.type_table.proofs.Indexed.{Emptying}
use Rattle.type_table.proofs.index.clear_heads.Given as goal

abbrev pub invariant-loop-i : goal.invariant-loop-i
invariant-loop-i l = Emptying l.initial.work l.work l.i

abbrev pub decreases-loop-i : goal.decreases-loop-i
decreases-loop-i l = 256 - l.i
