use Prim.Native.Nat.{◌-◌}
use Rattle.name_maps.proofs.Maps.{Naming}
use Rattle.name_maps.proofs.map.put_functions.Given as goal

abbrev pub invariant-loop : goal.invariant-loop
invariant-loop l = Naming l.s l.work l.initial.out l.at (l.n - l.counter) l.place l.x l.out
