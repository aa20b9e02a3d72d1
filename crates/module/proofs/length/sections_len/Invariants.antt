use Rattle.module.proofs.Counting.{Adding}
use Rattle.module.proofs.length.sections_len.Given as goal

abbrev pub invariant-loop-k : goal.invariant-loop-k
invariant-loop-k l = Adding l.t l.from l.to l.at l.k l.o
