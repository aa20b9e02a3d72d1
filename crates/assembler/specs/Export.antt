-- What the exported calls hand their callers.
use Rattle.std.specs.Prelude.{ℕ, min, ◌≡◌, List, [], ◌∷◌, ◌++◌, length, take, drop}
use Rattle.definition.specs.Syntax.{Bytes}
use Rattle.definition.specs.Assemble.{Outcome, call, call_names, call_strict, call_strict_names}
use Rattle.assembler.specs.Run.{Call}

-- the returned number, the answer's words, the output and the work area
pub record Handed : Type 0 where
  pub number : ℕ
  pub answer : List ℕ
  pub output : Bytes
  pub work : List ℕ

abbrev pub handed : ℕ → List ℕ → Bytes → List ℕ → Handed
handed r a new w = record { number = r; answer = a; output = new; work = w }

-- number, record, written length, and where the name was first used
abbrev pub answer_of : Outcome → List ℕ
answer_of o = o.number ∷ o.rec ∷ o.written ∷ o.first ∷ []

-- an outcome, where the output goes on beyond what was lent
unfoldable pub handed_on : Outcome → Bytes → Handed
handed_on o beyond = handed o.number (answer_of o) (o.output ++ beyond) o.work

-- how much of an output is lent: the written length has to fit in a word of the answer
abbrev pub lent : Bytes → ℕ
lent old = min (length old) 4294967295

-- a call on what is lent
unfoldable pub exported_by : Call → Bytes → List ℕ → Bytes → Handed
exported_by f s w old = handed_on (f s w (take (lent old) old)) (drop (lent old) old)

-- the returned number `r` and the answer's words `a`, with `out` and `w` for what was lent as `old` and `work`, are all that `f` says
abbrev pub ExportsBy : Call → Bytes → List ℕ → Bytes → ℕ → List ℕ → Bytes → List ℕ → Type 0
ExportsBy f s work old r a out w = handed r a out w ≡ exported_by f s work old

-- what `barrizuppa_assemble` and `barrizuppa_assemble_names` promise
abbrev pub Exports : Bytes → List ℕ → Bytes → ℕ → List ℕ → Bytes → List ℕ → Type 0
Exports s work old r a out w = ExportsBy call s work old r a out w

abbrev pub ExportsNames : Bytes → List ℕ → Bytes → ℕ → List ℕ → Bytes → List ℕ → Type 0
ExportsNames s work old r a out w = ExportsBy call_names s work old r a out w

-- and their strict twins
abbrev pub ExportsStrict : Bytes → List ℕ → Bytes → ℕ → List ℕ → Bytes → List ℕ → Type 0
ExportsStrict s work old r a out w = ExportsBy call_strict s work old r a out w

abbrev pub ExportsStrictNames : Bytes → List ℕ → Bytes → ℕ → List ℕ → Bytes → List ℕ → Type 0
ExportsStrictNames s work old r a out w = ExportsBy call_strict_names s work old r a out w
