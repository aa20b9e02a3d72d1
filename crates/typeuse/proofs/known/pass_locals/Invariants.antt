use Rattle.std.proofs.Common.{◌-◌}
use Rattle.definition.specs.Token.{param}
use Rattle.typeuse.proofs.Gets.{Knowing}
use Rattle.typeuse.proofs.known.pass_locals.Given as goal

abbrev pub invariant-loop : goal.invariant-loop
invariant-loop l = Knowing param l.n l.s l.at (l.n - l.counter) l.here
