use Rattle.runs.proofs.Running.{Running}
use Rattle.runs.proofs.run_from.Given as goal

abbrev pub invariant-loop-i : goal.invariant-loop-i
invariant-loop-i l = Running l.s l.at l.count l.value l.i l.here
