-- What is known to be readable: lists that were read before, of which the identifiers are passed by their lengths.
use Rattle.std.specs.Prelude.{ℕ, ◌-◌, ◌≡◌, Bool, true, false, Option, Some}
use Rattle.definition.specs.Syntax.{Bytes}
use Rattle.definition.specs.Reader.{many}
use Rattle.definition.specs.Token.{param}
use Rattle.token.specs.Known.{Gets}
use Rattle.type_table.specs.declared.list.NextBoth.{NextBoth}
use Rattle.type_table.specs.declared.list.NextBoth.TheVariants as B
use Rattle.type_table.specs.declared.entry.Signature.{Signature}

-- so many parameters can be read; of types alone nothing need be known, each is a byte that is checked
abbrev pub Reads : Bool → Bytes → ℕ → ℕ → Type 0
Reads true s at left = Gets (many left param s at)
Reads false s at left = Unit {0}

-- what is left of a list can be read
pub record Passable (named : Bool) (s : Bytes) (at left : ℕ) : Type 0 where
  pub reads : Reads named s at left

-- and so can the rest after its next type
pub record Rest (named : Bool) (left : ℕ) (s : Bytes) (r : Option (ℕ × ℕ)) : Type 0 where
  pub rest : (t q : ℕ) → r ≡ Some (t, q) → Passable named s q (left - 1)

-- the rests of two lists
abbrev pub BothPassable : Bytes → Bool → Bool → NextBoth → Type 0
BothPassable s named other (B.Same a b) = Passable named s a.at a.count × Passable other s b.at b.count
BothPassable s named other B.Differ = Unit {0}
BothPassable s named other B.End = Unit {0}

-- the parameters of a signature can be read
abbrev pub ReadableSignature : Bytes → Signature → Type 0
ReadableSignature s x = Passable x.named s x.params.at x.params.count
