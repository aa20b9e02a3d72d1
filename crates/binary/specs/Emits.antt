-- What an emitter that also resolves says.
use Rattle.std.specs.Prelude.{Ok, Err}
use Rattle.syntax.specs.Refusals.{Resolved}
use Rattle.std.specs.Prelude.{ℕ, ◌≡◌, List}
use Rattle.definition.specs.Basic.{Answer, ok}
use Rattle.definition.specs.Syntax.{Bytes}
use Rattle.syntax.specs.Refusals.{refused_by}
use Rattle.emit.specs.Put.{Put}

-- the definition's answer is a value, and the bytes of that value were put
pub record Wrote {A : Type 0} (bytes : A → Bytes) (a : Answer A) (old : List ℕ) (at o : ℕ) (new : List ℕ) : Type 0 where
  pub value : A
  pub is : a ≡ ok value
  pub put : Put old at (bytes value) o new

-- `r` is the definition's answer: of a value its bytes were put, and a refusal is the same
unfoldable pub Emits : {A : Type 0} → (A → Bytes) → Answer A → List ℕ → ℕ → Resolved ℕ → List ℕ → Type 0
Emits bytes a old at (Ok o) new = Wrote bytes a old at o new
Emits bytes a old at (Err r) new = a ≡ refused_by r
