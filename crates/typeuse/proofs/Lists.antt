-- A list that was passed over is the list of its elements.
use mathlib.Core.Path.{◌≡◌, ap}
use mathlib.Core.List.{List, [], ◌∷◌}
use Prim.Native.Nat.{ℕ, zero, suc}
use native.Mathlib.Omega.{arith}
use Rattle.definition.specs.Syntax.{Bytes}
use Rattle.definition.specs.Reader.{Step, got, fault, Reader, onward, many}
use Rattle.laws.specs.Steps.{stops}
use Rattle.token.proofs.Skips.{gave_at, stopped_at}
use Rattle.syntax.specs.TypeUses.{on_step, elements}

-- where many are read, the elements are they
pub elements_are : {A : Type 0} (p : Reader A) (n : ℕ) (s : Bytes) (at : ℕ) (xs : List A) (q : ℕ) → many n p s at ≡ got xs q → elements p s at n ≡ xs
unfolding many elements
elements_are p zero s at xs q e = let d : xs ≡ [] = cc in rw d
elements_are {A = A} p (suc n) s at xs q e = go (λ next ys z. elements_are p n s next ys q z) (p s at) e
  where
    last : (x : A) (next : ℕ) (st : Step (List A)) → ((ys : List A) → st ≡ got ys q → elements p s next n ≡ ys)
        → onward (λ ys k. got (x ∷ ys) k) st ≡ got xs q → x ∷ elements p s next n ≡ xs
    last x next (got ys k) f e = let d : xs ≡ x ∷ ys = cc in let b : k ≡ q = cc in rw (d, f ys (ap (λ m. got ys m) b))
    last x next (fault k) f e = let z : ◌≡◌ {A = ℕ} 0 1 = cc in absurd (omega arith)

    go : ((next : ℕ) (ys : List A) → many n p s next ≡ got ys q → elements p s next n ≡ ys) → (st : Step A)
        → onward (λ x next. onward (λ ys k. got (x ∷ ys) k) (many n p s next)) st ≡ got xs q → on_step st (λ x next. x ∷ elements p s next n) [] ≡ xs
    go f (got x next) e = last x next (many n p s next) (λ ys z. f next ys z) e
    go f (fault k) e = let z : ◌≡◌ {A = ℕ} 0 1 = cc in absurd (omega arith)

module _ {A : Type 0} (p : Reader A) (n : ℕ) (s : Bytes) (at : ℕ) where
  pub many_past : (q : ℕ) → stops (many n p s at) ≡ got tt q → many n p s at ≡ got (elements p s at n) q
  many_past q e = let g = gave_at (many n p s at) q e in rw (elements_are p n s at g.value q g.is) g.is

  pub many_stops : (k : ℕ) → stops (many n p s at) ≡ fault k → many n p s at ≡ fault k
  many_stops k e = stopped_at (many n p s at) k e

pub ruleset lists = (many_past, many_stops)
