-- Constants that are known by their places.
use Rattle.std.specs.Prelude.{Ok, Err, IsErrAnd}
use Rattle.std.specs.Result.{IsErr}
use Rattle.syntax.specs.Reads.{Pass}
use Rattle.syntax.specs.Refusals.{number}
use Rattle.syntax.specs.declared.Fault.{Fault}
use Rattle.syntax.proofs.Ways.{reads}
use mathlib.Core.Path.{◌≡◌}
use Prim.Native.Nat.{ℕ}
use Rattle.definition.specs.Syntax as Syntax
use Rattle.definition.specs.Syntax.{Bytes, Identifier}
use Rattle.definition.specs.Reader.{got, fault}
use Rattle.definition.specs.Instructions.{constant}
use Rattle.syntax.specs.Plain.{no_constant, constant_at, constant_past}

-- what was read is the constant at its place
module _ (s : Bytes) (at : ℕ) where
  pub const_is : (c : Syntax.Plain Identifier) (n : ℕ) → constant s at ≡ got c n → constant_at s at ≡ c
  unfolding constant_at
  const_is c n e = rw e

  pub const_none : (n : ℕ) → constant s at ≡ fault n → constant_at s at ≡ no_constant
  unfolding constant_at
  const_none n e = rw e

  pub const_handed : (r : Pass) (n : Fault) → IsErr r → IsErrAnd r (λ e. e ≡ n) → fault (number n) ≡ constant_past s at r
  const_handed (Ok a) n i p = absurd p
  const_handed (Err e) n i p = rw p

pub ruleset constants = (const_is, const_none, const_handed)

-- how `search` follows the definition past a constant
pub ruleset constant-answers = (reads)
