use Rattle.sections.proofs.Fields.{Emitting}
use Rattle.sections.proofs.contents.emit_fields.Given as goal

abbrev pub invariant-loop-o : goal.invariant-loop-o
invariant-loop-o l = Emitting l.k l.s l.initial.work l.initial.out l.at l.c l.o l.out l.work

abbrev pub decreases-loop-o : goal.decreases-loop-o
decreases-loop-o l = l.c.left
