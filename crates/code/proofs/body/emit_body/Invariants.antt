use Rattle.code.proofs.Bodies.{Going}
use Prim.Native.Nat.{◌-◌}
use Rattle.code.proofs.body.emit_body.Given as goal

abbrev pub invariant-loop-p : goal.invariant-loop-p
invariant-loop-p l = Going l.s l.initial.work l.l l.rec l.here l.initial.out l.at l.work l.out l.o l.p

abbrev pub decreases-loop-p : goal.decreases-loop-p
decreases-loop-p l = 4096 - l.p.rec
