-- What flattening does with a folded record and its operands: the recursion over operands that the code makes.
use mathlib.Core.Path.{◌≡◌, refl, ◌∙◌, ap}
use Prim.Native.Nat.{ℕ, zero, suc, ◌+◌, ◌-◌}
use mathlib.Core.List.{List, [], ◌∷◌, ◌++◌, append_assoc}
use borrow.Author.Tests.{lt-leb}
use native.Mathlib.Omega.{arith}
use Rattle.definition.specs.Syntax.{Instr, Rec, folded, Body}
use Rattle.definition.specs.Folded.{Waiting, follow, still, flatten}

-- so many folded records, each with its operands, stand first in some records, the next of which has the number r: what they mean in flat order, the
-- number of the record after them, and the records that are left
pub data Trees {I : Type 0} : ℕ → ℕ → List (Rec I) → Body I → ℕ → List (Rec I) → Type 0 where
  none : {r : ℕ} {rs : List (Rec I)} → Trees 0 r rs [] r rs
  more : {m n r r₁ r₂ : ℕ} {x : Instr I} {rs rs₁ rs₂ : List (Rec I)} {a b : Body I}
      → Trees m (r + 1) rs a r₁ rs₁ → Trees n r₁ rs₁ b r₂ rs₂ → Trees (suc n) r (folded x m ∷ rs) (a ++ ((r, x) ∷ b)) r₂ rs₂

module _ {I : Type 0} where
  -- what comes where the operator y, at record q, waits for n operands: they, then y, then what follows y
  abbrev waits : ℕ → ℕ → ℕ → Instr I → Waiting I → List (Rec I) → Body I
  waits zero r q y ws rs = (q, y) ∷ follow ws ++ flatten r (still ws) rs
  waits (suc n) r q y ws rs = flatten r ((suc n, q, y) ∷ ws) rs

  -- a folded record waits for its operands
  flat_folded : (m r : ℕ) (x : Instr I) (ws : Waiting I) (rs : List (Rec I)) → flatten r ws (folded x m ∷ rs) ≡ waits m (r + 1) r x ws rs
  unfolding flatten
  flat_folded zero r x ws rs = refl
  flat_folded (suc m) r x ws rs = refl

  -- an operand is complete: one fewer is waited for
  flat_next : (n r q : ℕ) (y : Instr I) (ws : Waiting I) (rs : List (Rec I))
      → follow ((suc n, q, y) ∷ ws) ++ flatten r (still ((suc n, q, y) ∷ ws)) rs ≡ waits n r q y ws rs
  unfolding follow still
  flat_next zero r q y ws rs = refl
  flat_next (suc n) r q y ws rs =
      let m : (suc (suc n) - 1) ≡ suc n = omega arith in
      rw (lt-leb (suc (suc n)) 1 (omega arith), m) refl

  flat_operands : {n r r' : ℕ} {rs rest : List (Rec I)} {out : Body I} → Trees n r rs out r' rest
      → (q : ℕ) (y : Instr I) (ws : Waiting I) → waits n r q y ws rs ≡ out ++ waits 0 r' q y ws rest
  flat_operands none q y ws = refl
  flat_operands (more {m = m} {n = n} {r = r} {r₁ = r₁} {x = x} {rs = rs} {rs₁ = rs₁} {a = o} a b) q y ws =
      flat_folded m r x ((suc n, q, y) ∷ ws) rs
      ∙ flat_operands a r x ((suc n, q, y) ∷ ws)
      ∙ ap (λ z. o ++ ((r, x) ∷ z)) (flat_next n r₁ q y ws rs₁ ∙ flat_operands b q y ws)
      ∙ rw (append_assoc o) refl

  -- a folded record with its operands: they in flat order, then its operator
  pub flat_one : (r : ℕ) (x : Instr I) {m r' : ℕ} {rs rest : List (Rec I)} {out : Body I} → Trees m (r + 1) rs out r' rest
      → (ws : Waiting I) → flatten r ws (folded x m ∷ rs) ≡ out ++ ((r, x) ∷ follow ws ++ flatten r' (still ws) rest)
  flat_one r x {m = m} {rs = rs} a ws = flat_folded m r x ws rs ∙ flat_operands a r x ws
