use Prim.Native.Nat.{◌-◌}
use Rattle.area.specs.Layout.{HASHES}
use Rattle.type_table.proofs.Indexed.{Freeing}
use Rattle.type_table.proofs.index.free_place.Given as goal

abbrev pub invariant-loop-h : goal.invariant-loop-h
invariant-loop-h l = Freeing l.work l.h l.place l.bits

abbrev pub decreases-loop-h : goal.decreases-loop-h
decreases-loop-h l = HASHES - l.place
