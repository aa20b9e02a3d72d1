use Rattle.runs.proofs.Running.{Counting}
use Rattle.runs.proofs.count_runs.Given as goal

abbrev pub invariant-loop-n : goal.invariant-loop-n
invariant-loop-n l = Counting l.s l.initial.here l.initial.left l.n l.here l.left
