use Rattle.std.proofs.Common.{◌-◌}
use Rattle.definition.specs.Token.{string}
use Rattle.typeuse.proofs.Gets.{Knowing}
use Rattle.typeuse.proofs.known.pass_strings.Given as goal

abbrev pub invariant-loop : goal.invariant-loop
invariant-loop l = Knowing string l.n l.s l.at (l.n - l.counter) l.here
