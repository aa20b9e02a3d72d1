use Rattle.emit.proofs.Moved.{Moved}
use Rattle.emit.proofs.move_up.Given as goal

-- all but the first `left` bytes are moved; those that are left become fewer
abbrev pub invariant-loop-left : goal.invariant-loop-left
invariant-loop-left l = Moved l.initial.out l.at l.n l.by l.out l.left

abbrev pub decreases-loop-left : goal.decreases-loop-left
decreases-loop-left l = l.left
