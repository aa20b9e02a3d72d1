use Rattle.module.proofs.Sections.{Sectioning}
use Rattle.module.proofs.write.put_sections.Given as goal

abbrev pub invariant-loop-k : goal.invariant-loop-k
invariant-loop-k l = Sectioning l.t l.kept l.s l.initial.work l.initial.out l.at l.from l.to l.k l.o l.out l.work
