-- What follows from the promises of the assembler's calls (`Assembles`, `Exports` and their twins in crates/assembler/specs), with names and without.
use Rattle.std.specs.Prelude.{◌≡◌, true, false, List, [], ◌++◌, ℕ, ◌<◌, length, take, get_or, replicate}
use Rattle.definition.specs.Basic.{Answer, ok, fails}
use Rattle.definition.specs.Syntax.{Bytes, Identifier, Rec}
use Rattle.definition.specs.Read.{read}
use Rattle.definition.specs.Assemble.{Outcome}
use Rattle.laws.specs.TypeLists.{NoTypeTooMany}
use Rattle.renaming.specs.Renamed.{names_of}
use Rattle.in_range.specs.InRange.{no_names, CallInRange}
use Rattle.writers.specs.declared.Said.{Said}

-- what an exported call says and leaves: the returned number, and of the answer's words the record, the written length and where a name was first used
abbrev pub outcome_in : ℕ → List ℕ → Bytes → List ℕ → Outcome
outcome_in r a out w = record { number = r; rec = get_or a 1 0; first = get_or a 3 0; written = get_or a 2 0; output = out; work = w }

-- ## One promise, one answer

abbrev pub OneAnswer : (Said → Bytes → List ℕ → Type 0) → Type 0
OneAnswer P = (r r' : Said) (out out' : Bytes) (w w' : List ℕ) → P r out w → P r' out' w' → (r ≡ r') × (out ≡ out') × (w ≡ w')

abbrev pub OneExport : (ℕ → List ℕ → Bytes → List ℕ → Type 0) → Type 0
OneExport P =
    (r r' : ℕ) (a a' : List ℕ) (out out' : Bytes) (w w' : List ℕ) → P r a out w → P r' a' out' w'
    → (r ≡ r') × (a ≡ a') × (out ≡ out') × (w ≡ w')

-- ## Demand 1, of what was lent as `work` and `old`

pub record Demand1 (work : List ℕ) (old : Bytes) (o : Outcome) : Type 0 where
  pub refused_keeps : 0 < o.number → (o.written ≡ 0) × (o.output ≡ old)
  pub work_cleared : o.work ≡ replicate (length work) 0

-- ## Demand 3

-- number, record, where a name was first used, and length; the module's bytes; and where the same was lent, the whole output and the work area
pub record SameAnswer (work work' : List ℕ) (old old' : Bytes) (r r' : Said) (out out' : Bytes) (w w' : List ℕ) : Type 0 where
  pub said : r ≡ r'
  pub bytes : take r.len out ≡ take r'.len out'
  pub outputs : old ≡ old' → out ≡ out'
  pub works : length work ≡ length work' → w ≡ w'

-- the same of the exported call: the written length is the answer's third word
pub record SameExport (work work' : List ℕ) (old old' : Bytes) (r r' : ℕ) (a a' : List ℕ) (out out' : Bytes) (w w' : List ℕ) : Type 0 where
  pub number : r ≡ r'
  pub answer : a ≡ a'
  pub bytes : take (get_or a 2 0) out ≡ take (get_or a' 2 0) out'
  pub outputs : old ≡ old' → out ≡ out'
  pub works : length work ≡ length work' → w ≡ w'

-- ## The module before its names

-- the name section of a stream's records
abbrev pub section_of : Answer (List (Rec Identifier)) → Bytes
section_of (ok rs) = names_of false rs
section_of (fails q) = []

-- both calls have accepted: `a`, with names, has written what `b` wrote without them, and then the section
pub record NamesAfter (section : Bytes) (a b : Outcome) : Type 0 where
  pub number : a.number ≡ 0
  pub number' : b.number ≡ 0
  pub rec : a.rec ≡ b.rec
  pub first : a.first ≡ b.first
  pub bytes : take a.written a.output ≡ take b.written b.output ++ section

-- ## No type too many (document 02, §14)

-- the call has accepted the stream and written a module: the types in its section 1 begin with the declared ones in order, hold an equal signature for
-- each use that takes or adds a type, and no list that does so has fewer (crates/laws/specs/TypeLists.antt)
pub record FewestTypes (s : Bytes) (o : Outcome) : Type 0 where
  pub number : o.number ≡ 0
  pub records : List (Rec Identifier)
  pub reads : read s ≡ ok records
  pub types : NoTypeTooMany records (take o.written o.output)

-- ## Every index in range (document 02, §8)

-- a strict call has accepted the stream: the module that it has written is that of items whose indices each lie below their space's count; with names,
-- the stream's name section stands after it (crates/in_range/specs/InRange.antt)
abbrev pub ModuleInRange : Bytes → Outcome → Type 0
ModuleInRange s o = CallInRange no_names s o

abbrev pub NamedInRange : Bytes → Outcome → Type 0
NamedInRange s o = CallInRange (names_of true) s o
