use Prim.Native.Nat.{◌-◌}
use Rattle.name_maps.proofs.Maps.{Listing}
use Rattle.name_maps.proofs.map.put_list.Given as goal

abbrev pub invariant-loop : goal.invariant-loop
invariant-loop l = Listing l.s l.initial.out l.initial.x l.initial.at l.n l.at (l.n - l.counter) l.x l.out
