-- Demand 3's premise, on two streams: they are free of refusals 1 to 9 and 19 (10 is about the work area) and differ only in identifiers. And
-- what it says of two calls.
use Rattle.std.specs.Prelude.{ℕ, ◌≤◌, Bool, ◌≡◌, ◌↔◌, List, [], ◌++◌, length, take}
use Rattle.std.proofs.Math.Option.{some}
use Rattle.definition.specs.Assemble.{longest_stream}
use Rattle.definition.specs.Basic.{Answer, ok, fails, at, same_bytes}
use Rattle.definition.specs.Syntax.{Bytes, Identifier, Rec}
use Rattle.definition.specs.Read.{read}
use Rattle.definition.specs.Deinline.{Numbered, deinline}
use Rattle.definition.specs.Names.{Scope}
use Rattle.definition.specs.NameSection.{name_section}
use Rattle.definition.specs.Assemble.{scope, Outcome}
use Rattle.renaming.specs.Shape.{shape}
use Rattle.renaming.specs.Kinds.{Kind, Names, names}

-- any two of one kind, in the places i and j, are equal in the first exactly when those in the same places are equal in the second
pub record Alike (first second : Names Identifier) : Type 0 where
  pub equal_at_once : (k : Kind) (i j : ℕ) (a b c d : Identifier)
      → at first i ≡ some (k, a) → at first j ≡ some (k, b)
      → at second i ≡ some (k, c) → at second j ≡ some (k, d)
      → (a ≡ b) ↔ (c ≡ d)

pub record Renamed (s t : Bytes) : Type 0 where
  -- free of refusal 1
  pub short : length s ≤ longest_stream
  pub short' : length t ≤ longest_stream
  -- free of refusals 2 to 9 and 19
  pub first : List (Rec Identifier)
  pub second : List (Rec Identifier)
  pub reads : read s ≡ ok first
  pub reads' : read t ≡ ok second
  -- they differ only in identifiers, absent at the same places
  pub same_shape : shape first ≡ shape second
  pub alike : Alike (names first) (names second)

-- two calls that say the same: the number, the record, where a name was first used, how many bytes are written, and the bytes
pub record SaysTheSame (a b : Outcome) : Type 0 where
  pub number : a.number ≡ b.number
  pub rec : a.rec ≡ b.rec
  pub first : a.first ≡ b.first
  pub written : a.written ≡ b.written
  pub bytes : take a.written a.output ≡ take b.written b.output

-- ## The call that also writes the names (document 02, §1)

abbrev pub names_by : Numbered Identifier → Answer (Scope Identifier) → Bytes
names_by fs (ok Γ) = name_section Γ fs
names_by fs (fails q) = []

-- the name section of some records
unfoldable pub names_of : Bool → List (Rec Identifier) → Bytes
names_of strict rs = names_by (deinline rs) (scope strict same_bytes (deinline rs))

-- two calls that write the same bytes before their name sections
pub record WritesBefore (section section' : Bytes) (a b : Outcome) : Type 0 where
  pub before : Bytes
  pub bytes : take a.written a.output ≡ before ++ section
  pub bytes' : take b.written b.output ≡ before ++ section'

-- two calls that say the same but for their name sections. A refused call writes nothing, and a module is never empty
pub record SaysTheSameBefore (section section' : Bytes) (a b : Outcome) : Type 0 where
  pub number : a.number ≡ b.number
  pub rec : a.rec ≡ b.rec
  pub first : a.first ≡ b.first
  pub nothing : (a.written ≡ 0) ↔ (b.written ≡ 0)
  pub something : (a.written ≡ 0 → ⊥) → WritesBefore section section' a b
