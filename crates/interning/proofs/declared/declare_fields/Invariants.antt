use Rattle.interning.proofs.Declares.{Declaring}
use Rattle.interning.proofs.declared.declare_fields.Given as goal

abbrev pub invariant-loop-count : goal.invariant-loop-count
invariant-loop-count l = Declaring l.s l.initial.work l.work l.c l.count

abbrev pub decreases-loop-count : goal.decreases-loop-count
decreases-loop-count l = l.c.left
