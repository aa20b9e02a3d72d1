use Rattle.std.proofs.Common.{◌-◌}
use Rattle.laws.proofs.Passing.{Passing}
use Rattle.syntax.specs.TypeUses.{elem}
use Rattle.typeuse.proofs.pass_many.Given as goal

abbrev pub invariant-loop : goal.invariant-loop
invariant-loop l = Passing (elem l.what) l.n l.s l.at (l.n - l.counter) l.here
