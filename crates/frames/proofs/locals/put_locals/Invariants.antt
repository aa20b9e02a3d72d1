use Prim.Native.Nat.{◌-◌}
use Rattle.frames.proofs.Entries.{Putting}
use Rattle.frames.proofs.locals.put_locals.Given as goal

abbrev pub invariant-loop : goal.invariant-loop
invariant-loop x = Putting x.s x.initial.work x.from x.fn.l.at x.fn.l.count x.work x.at (x.fn.l.count - x.counter) x.count
