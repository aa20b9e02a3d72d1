use Prim.Native.Nat.{◌-◌}
use Rattle.area.specs.Layout.{HASHES}
use Rattle.type_table.proofs.Known.{KnownStep}
use Rattle.type_table.proofs.Indexed.{Seeking}
use Rattle.type_table.proofs.table.find_type.Given as goal

abbrev pub invariant-loop-p : goal.invariant-loop-p
invariant-loop-p l = KnownStep l.s l.x.named l.x.params l.y.named l.y.params l.a l.b

abbrev pub decreases-loop-p : goal.decreases-loop-p
decreases-loop-p l = l.a.count

abbrev pub invariant-types : goal.invariant-types
invariant-types l = Seeking l.s l.work l.count l.x l.place l.bits

abbrev pub decreases-types : goal.decreases-types
decreases-types l = HASHES - l.place
