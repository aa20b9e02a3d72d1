use Prim.Native.Nat.{◌≤◌, ◌-◌}
use Rattle.console.proofs.next_length.Given as goal

abbrev pub invariant-loop-n : goal.invariant-loop-n
invariant-loop-n g l = l.n ≤ 5

abbrev pub decreases-loop-n : goal.decreases-loop-n
decreases-loop-n g l = 5 - l.n
