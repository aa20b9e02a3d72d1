-- The exported call hands on what the pass says.
use Rattle.std.specs.Prelude.{Ok, Err}
use Rattle.syntax.specs.Refusals.{Resolved}
use mathlib.Core.Path.{◌≡◌, ◌∙◌, ap}
use mathlib.Core.List.{List}
use Prim.Native.Nat.{ℕ, ◌≤◌, ◌<◌}
use lib.ListN.{length, set, length-set, replicate}
use native.Mathlib.Omega.{arith}
use Rattle.definition.specs.Basic.{ok}
use Rattle.definition.specs.Syntax.{Bytes}
use Rattle.syntax.specs.Refusals.{number, refused_by}
use Rattle.syntax.specs.declared.Refusal.{Refusal}
use Rattle.stream.specs.Pass.{counted, reading, Reads}
use Rattle.stream.specs.Export.{told_in, Told}

-- `w₁` is what the pass leaves, which is as long as before, and `w'` what is left when it is cleared
module _ (s : Bytes) (w w₁ w' a a' : List ℕ) (r : Resolved ℕ) (v : Reads s w r w₁) (l : length w₁ ≡ length w) (z : w' ≡ replicate (length w₁) 0) where
  cleared : w' ≡ replicate (length w) 0
  cleared = z ∙ ap (λ n. replicate n 0) l

  pub told-accepted : (n : ℕ) → r ≡ Ok n → a' ≡ told_in a 0 n → Told s w a 0 w' a'
  told-accepted n e d = let g : reading s (length w) ≡ ok n = v.says ∙ ap counted e in
      record { number = rw g; answer = rw g d; leaves = cleared }

  pub told-refused : (q : Refusal) (m : ℕ) → r ≡ Err q → m ≡ number q.fault → a' ≡ told_in a m q.rec → Told s w a m w' a'
  told-refused q m e f d = let g : reading s (length w) ≡ refused_by q = v.says ∙ ap counted e in
      record { number = rw g f; answer = rw (g, ← f) d; leaves = cleared }

pub second-answer : (a : List ℕ) (n : ℕ) → 2 ≤ length a → 1 < length (set a 0 n)
second-answer a n h = rw (length-set a 0 n) (omega arith)
