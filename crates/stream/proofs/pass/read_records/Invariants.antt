use Prim.Native.Nat.{◌-◌}
use Rattle.stream.proofs.Loop.{Going}
use Rattle.stream.proofs.pass.read_records.Given as goal

abbrev pub invariant-loop-p : goal.invariant-loop-p
invariant-loop-p l = Going l.s l.initial.work l.p l.marks l.seen l.ended l.used l.named l.work

abbrev pub decreases-loop-p : goal.decreases-loop-p
decreases-loop-p l = 4097 - l.p.rec
