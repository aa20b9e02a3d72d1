use Prim.Native.Nat.{◌-◌}
use Rattle.interning.proofs.Bodies.{Going}
use Rattle.interning.proofs.body.use_body.Given as goal

abbrev pub invariant-loop-r : goal.invariant-loop-r
invariant-loop-r l = Going l.s l.initial.work l.count l.at l.rec l.work l.k l.here l.r l.depth

abbrev pub decreases-loop-r : goal.decreases-loop-r
decreases-loop-r l = 4096 - l.r
