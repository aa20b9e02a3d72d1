use Rattle.std.proofs.Common.{◌-◌}
use Rattle.definition.specs.Token.{id_byte}
use Rattle.laws.proofs.Passing.{Passing}
use Rattle.token.proofs.byte.pass_idchars.Given as goal

abbrev pub invariant-loop : goal.invariant-loop
invariant-loop l = Passing id_byte l.n l.s l.at (l.n - l.counter) l.here
