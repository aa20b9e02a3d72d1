use Prim.Native.Nat.{◌-◌}
use Rattle.operands.proofs.Turns.{Resolving}
use Rattle.operands.specs.Operands.{bytes_of, target_of}
use Rattle.operands.proofs.indices.emit_each.Given as goal

abbrev pub invariant-loop : goal.invariant-loop
invariant-loop l = Resolving (target_of l.s l.work l.to l.rec) (bytes_of l.to) l.s l.initial.here l.fn.l.count l.initial.out l.at l.here (l.fn.l.count - l.counter) l.o l.out
