use Prim.Native.Nat.{◌-◌}
use Rattle.name_table.proofs.Walk.{Finding}
use Rattle.name_table.proofs.table.find_name.Given as goal

abbrev pub invariant-loop-k : goal.invariant-loop-k
invariant-loop-k l = Finding l.s l.work l.base l.count l.name l.k l.at

abbrev pub decreases-loop-k : goal.decreases-loop-k
decreases-loop-k l = l.count - l.k
