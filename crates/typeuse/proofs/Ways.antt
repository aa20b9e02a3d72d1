-- How `search` and `grind` follow the definition past what the readers of this crate answered, and past what is only passed over.
use mathlib.Core.Path.{◌≡◌, refl}
use Prim.Native.Nat.{ℕ}
use Rattle.definition.specs.Syntax.{Bytes}
use Rattle.definition.specs.Reader.{got, fault}
use Rattle.definition.specs.Token as Token
use Rattle.laws.specs.Steps.{stops}
use Rattle.syntax.specs.TypeUses.{elem}
use Rattle.syntax.specs.declared.Elem.{Elem}
use Rattle.syntax.specs.declared.Elem.TheVariants as E
use Rattle.syntax.proofs.Ways.{reads, skip_handed}
use Rattle.token.proofs.Skips.{stops-made, stops_then, stops_not, stops_read, stops_fault}

pub ruleset use-answers = (reads)

-- ## What is only passed over

-- a parameter: its identifier, and its type
module _ (s : Bytes) (at n : ℕ) where
  pub param_past : stops (Token.identifier s at) ≡ got tt n → stops (Token.param s at) ≡ stops (Token.val_type s n)
  unfolding Token.param
  param_past e = stops_then (stops (Token.val_type s n)) _ (Token.identifier s at) n e (λ i. stops-made _ (Token.val_type s n))

  pub param_stops : stops (Token.identifier s at) ≡ fault n → stops (Token.param s at) ≡ fault n
  unfolding Token.param
  param_stops e = stops_not (fault n) _ (Token.identifier s at) n e refl

-- an element, by what the list is of
module _ (w : Elem) (s : Bytes) (at : ℕ) where
  pub is_local : w ≡ E.Local → stops (elem w s at) ≡ stops (Token.param s at)
  is_local d = rw d

  pub is_type : w ≡ E.Type → stops (elem w s at) ≡ stops (Token.val_type s at)
  is_type d = rw d

  pub is_string : w ≡ E.String → stops (elem w s at) ≡ stops (Token.string s at)
  is_string d = rw d

  pub is_index : w ≡ E.Index → stops (elem w s at) ≡ stops (Token.present s at)
  is_index d = rw d

pub ruleset passed_over = (refl, is_local, is_type, is_string, is_index, param_past, param_stops, stops_read, stops_fault, skip_handed)
