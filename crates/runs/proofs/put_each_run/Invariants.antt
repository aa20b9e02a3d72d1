use Rattle.runs.proofs.Running.{Counting}
use Rattle.binary.proofs.Putting.{Putting}
use Rattle.definition.specs.Basic.{concat_map}
use Rattle.definition.specs.Binary.{runs, run}
use Rattle.runs.specs.Locals.{local_types}
use Rattle.runs.proofs.put_each_run.Given as goal

abbrev pub invariant-loop-n : goal.invariant-loop-n
invariant-loop-n l = Counting l.s l.initial.here l.initial.left l.n l.here l.left × Putting l.initial.out l.at (concat_map run (runs (local_types l.s l.initial.here l.initial.left))) (concat_map run (runs (local_types l.s l.here l.left))) l.o l.out
