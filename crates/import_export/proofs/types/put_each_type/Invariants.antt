use Prim.Native.Nat.{◌-◌}
use Rattle.syntax.specs.TypeUses.{elements}
use Rattle.type_table.specs.Table.{typed}
use Rattle.binary.proofs.Putting.{Putting}
use Rattle.import_export.proofs.types.put_each_type.Given as goal

abbrev pub invariant-loop : goal.invariant-loop
invariant-loop x = Putting x.initial.out x.at (elements (typed x.named) x.s x.fn.l.at x.fn.l.count) (elements (typed x.named) x.s x.here (x.fn.l.count - x.counter)) x.o x.out
