-- What a call says and leaves.
use Rattle.std.specs.Prelude.{ℕ, ◌≡◌, List, length}
use Rattle.definition.specs.Syntax.{Bytes}
use Rattle.definition.specs.Assemble as Assemble
use Rattle.definition.specs.Assemble.{Maker, assemble_by, call, call_names, call_strict, call_strict_names}
use Rattle.writers.specs.Does.{heard, told}
use Rattle.writers.specs.declared.Said.{Said}

-- a call, before the work area is cleared
pub record Runs (make : Maker) (s w old : List ℕ) (r : Said) (w' new : List ℕ) : Type 0 where
  pub says : told r new ≡ heard old (assemble_by make s (length w) (length old))
  pub long : length w' ≡ length w

-- what was said, and what output and work area are then
abbrev pub outcome_of : Said → Bytes → List ℕ → Assemble.Outcome
outcome_of r new w = record { number = r.number; rec = r.rec; first = r.first; written = r.len; output = new; work = w }

-- what a call does with a stream, a work area and an output, by the definition
abbrev pub Call : Type 0
Call = Bytes → List ℕ → Bytes → Assemble.Outcome

-- the answer `r`, with `out` and `w` for what was lent as `old` and `work`, is all that `f` says
abbrev pub AssemblesBy : Call → Bytes → List ℕ → Bytes → Said → Bytes → List ℕ → Type 0
AssemblesBy f s work old r out w = outcome_of r out w ≡ f s work old

-- what `assemble` and `assemble_names` promise
abbrev pub Assembles : Bytes → List ℕ → Bytes → Said → Bytes → List ℕ → Type 0
Assembles s work old r out w = AssemblesBy call s work old r out w

abbrev pub AssemblesNames : Bytes → List ℕ → Bytes → Said → Bytes → List ℕ → Type 0
AssemblesNames s work old r out w = AssemblesBy call_names s work old r out w

-- and their strict twins
abbrev pub AssemblesStrict : Bytes → List ℕ → Bytes → Said → Bytes → List ℕ → Type 0
AssemblesStrict s work old r out w = AssemblesBy call_strict s work old r out w

abbrev pub AssemblesStrictNames : Bytes → List ℕ → Bytes → Said → Bytes → List ℕ → Type 0
AssemblesStrictNames s work old r out w = AssemblesBy call_strict_names s work old r out w
