-- The locals of a function, as the stream has them, and their first run.
use Rattle.std.specs.Prelude.{Option, Some, None, ℕ, ◌<◌, ◌≤◌, ◌≡◌, List, [], ◌∷◌, map}
use Rattle.definition.specs.Syntax.{Bytes, ValType}
use Rattle.definition.specs.Reader.{many}
use Rattle.definition.specs.Token.{param}
use Rattle.definition.specs.Binary.{runs}
use Rattle.token.specs.Known.{Gets}
use Rattle.syntax.specs.TypeUses.{elements}
use Rattle.runs.specs.declared.Run.{Run}

-- the types of so many locals
abbrev pub local_types : Bytes → ℕ → ℕ → List ValType
local_types s at n = map (λ l. l.type) (elements param s at n)

-- of a local of type `value` and the locals here, `r` is the first run, and what it says is left are the others, which can be read
pub record RunIs (s : Bytes) (at count value : ℕ) (r : Run) : Type 0 where
  pub first : runs (value ∷ local_types s at count) ≡ (r.count, r.value) ∷ runs (local_types s r.next r.left)
  pub fewer : r.left ≤ count
  pub readable : Gets (many r.left param s r.next)

-- of the locals here, `r` is the first run and the others are left, which can be read
pub record FirstRun (s : Bytes) (at count : ℕ) (r : Run) : Type 0 where
  pub first : runs (local_types s at count) ≡ (r.count, r.value) ∷ runs (local_types s r.next r.left)
  pub fewer : r.left < count
  pub readable : Gets (many r.left param s r.next)

unfoldable pub RunAtIs : Bytes → ℕ → ℕ → Option Run → Type 0
RunAtIs s at count (Some r) = FirstRun s at count r
RunAtIs s at count None = runs (local_types s at count) ≡ []
