use Prim.Native.Nat.{◌-◌}
use Rattle.sections.proofs.Tables.{Typing}
use Rattle.sections.proofs.types.put_types.Given as goal

abbrev pub invariant-loop : goal.invariant-loop
invariant-loop l = Typing l.s l.work l.initial.out l.at (l.n - l.counter) l.place l.o l.out
