-- What the answers of the readers mean: each as a step of the definition.
use Rattle.std.specs.Prelude.{ℕ, Option as Optional, Some, None, Result, Ok, Err}
use Rattle.std.proofs.Math.Option.{Option, none, some}
use Rattle.definition.specs.Reader.{Step, got, fault}
use Rattle.syntax.specs.Refusals.{number}
use Rattle.syntax.specs.declared.Fault.{Fault}

-- a value and the place after it, or a fault
abbrev pub Read : Type 0 → Type 0
Read A = Result (A × ℕ) Fault

-- a place, or a fault
abbrev pub Pass : Type 0
Pass = Result ℕ Fault

-- the value as the definition's
abbrev pub step : {A B : Type 0} → (A → B) → Read A → Step B
step f (Ok x) = got (f x.0) x.1
step f (Err e) = fault (number e)

-- what is handed on as it is
abbrev pub same : {A : Type 0} → A → A
same x = x

-- what may be there, as the definition's
abbrev pub maybe : {A B : Type 0} → (A → B) → Optional A → Option B
maybe f None = none
maybe f (Some x) = some (f x)
