-- What stands in a body by the definition's reader is what a later pass meets there.
use Rattle.std.specs.Prelude.{if◌then◌else◌}
use mathlib.Core.Path.{◌≡◌, refl, sym, ◌∙◌, ap}
use Prim.Native.Nat.{ℕ, ◌≤◌}
use mathlib.Core.Bool.{Bool, true, false, not, false≢true}
use lib.Dec.{eqb, ltb}
use borrow.Author.Tests.{eq-eqb, ltb-false}
use native.Mathlib.Omega.{arith}
use Rattle.definition.specs.Syntax.{Bytes, Identifier, Instr, Rec, field, instr, folded, body_end}
use Rattle.definition.specs.Reader.{Step, got, fault, onward, require, give, byte, ◌>>=◌, ◌>>◌}
use Rattle.definition.specs.Instructions.{form_of, formed, is_open, is_due, unfolded_rec, fold, folded_rec, body_rec}
use Rattle.laws.specs.Depths.{deep}
use Rattle.laws.proofs.Backwards.{came, passed}
use Rattle.laws.proofs.Bodies.{deep_open, folds}
use Rattle.instr.specs.Bodies.{Head, one, folding, ended, unread, one_of, head_at, fold_here}

-- a record and the place after it, as they stand at a place
abbrev pub Stands : Bytes → ℕ → Rec Identifier → ℕ → Head → Type 0
Stands s here (field f) q h = ⊥
Stands s here (instr x) q h = h ≡ one x q
Stands s here (folded x n) q h = (h ≡ folding) × (fold_here s here ≡ got (folded x n) q)
Stands s here body_end q h = h ≡ ended q

-- no block is open where the body ends
not_open : (k : ℕ) → not (is_open (deep k).blocks) ≡ true → eqb k 0 ≡ true
not_open k e = go (ltb 0 k) refl (ap not (sym (deep_open k)) ∙ e)
  where
    go : (t : Bool) → ltb 0 k ≡ t → not t ≡ true → eqb k 0 ≡ true
    go true d e = absurd (false≢true e)
    go false d e = let l : k ≤ 0 = ltb-false 0 k d in eq-eqb k 0 (omega arith)

module _ (k : ℕ) (s : Bytes) (here : ℕ) (q : ℕ) where
  -- after its first byte: an instruction
  by_form : (b a : ℕ) (m : Step (Instr Identifier)) (y : Rec Identifier) → onward (λ x n. got (instr x) n) m ≡ got y q → Stands s here y q (one_of m)
  by_form b a (got x n) (field f) e = let z : ◌≡◌ {A = ℕ} 0 1 = cc in omega arith
  by_form b a (got x n) (instr y) e = let z : x ≡ y = cc in let w : n ≡ q = cc in rw (z, w)
  by_form b a (got x n) (folded y m) e = let z : ◌≡◌ {A = ℕ} 0 1 = cc in absurd (omega arith)
  by_form b a (got x n) body_end e = let z : ◌≡◌ {A = ℕ} 0 1 = cc in absurd (omega arith)
  by_form b a (fault n) y e = let z : ◌≡◌ {A = ℕ} 0 1 = cc in absurd (omega arith)

  -- the body's end
  by_end : (a : ℕ) (y : Rec Identifier) → (require 8 (not (is_open (deep k).blocks)) >> give body_end) s a ≡ got y q → Stands s here y q (if eqb k 0 then ended a else unread)
  by_end a y e =
      let p = passed _ 8 (not (is_open (deep k).blocks)) s a e in
      rw (not_open k p.0) (go y p.1)
    where
      go : (y : Rec Identifier) → got body_end a ≡ got y q → Stands s here y q (ended a)
      go (field f) e = let z : ◌≡◌ {A = ℕ} 0 1 = cc in omega arith
      go (instr x) e = let z : ◌≡◌ {A = ℕ} 0 1 = cc in absurd (omega arith)
      go (folded x n) e = let z : ◌≡◌ {A = ℕ} 0 1 = cc in absurd (omega arith)
      go body_end e = let z : a ≡ q = cc in rw z

  by_byte : (b a : ℕ) (y : Rec Identifier) → unfolded_rec (deep k) b s a ≡ got y q
      → Stands s here y q (if eqb b 0xFF then (if eqb k 0 then ended a else unread) else one_of (formed (deep k) b (form_of b) s a))
  unfolding unfolded_rec
  by_byte b a y e = go (eqb b 0xFF) e
    where
      go : (t : Bool) → (if t then (require 8 (not (is_open (deep k).blocks)) >> give body_end) else (formed (deep k) b (form_of b) >>= λ x. give (instr x))) s a ≡ got y q
          → Stands s here y q (if t then (if eqb k 0 then ended a else unread) else one_of (formed (deep k) b (form_of b) s a))
      go true e = by_end a y e
      go false e = by_form b a (formed (deep k) b (form_of b) s a) y e

  -- a folded record
  by_fold : (y : Rec Identifier) → (a : ℕ) → fold_here s here ≡ fold s a → fold s a ≡ got y q → Stands s here y q folding
  by_fold (field f) a h e = let d = (folds s a (field f) q e).is in let z : ◌≡◌ {A = ℕ} 0 1 = cc in omega arith
  by_fold (instr x) a h e = let d = (folds s a (instr x) q e).is in let z : ◌≡◌ {A = ℕ} 0 1 = cc in absurd (omega arith)
  by_fold (folded x n) a h e = (refl, h ∙ e)
  by_fold body_end a h e = let d = (folds s a body_end q e).is in let z : ◌≡◌ {A = ℕ} 0 1 = cc in absurd (omega arith)

  after-byte : (b a : ℕ) → byte s here ≡ got b a → fold_here s here ≡ fold s a
  unfolding fold_here
  after-byte b a d = rw d

  pub stands : (y : Rec Identifier) → body_rec (deep k) s here ≡ got y q → Stands s here y q (head_at k s here)
  unfolding body_rec folded_rec deep is_due head_at
  stands y e = let c = came (byte s here) e in rw c.first (go (eqb c.value 0xF0) c.value c.next (after-byte c.value c.next c.first) c.rest)
    where
      go : (t : Bool) (b a : ℕ) → fold_here s here ≡ fold s a
          → (if t then folded_rec (deep k) else (require 4 (not (is_due (deep k).due)) >> unfolded_rec (deep k) b)) s a ≡ got y q
          → Stands s here y q (if t then folding else if eqb b 0xFF then (if eqb k 0 then ended a else unread) else one_of (formed (deep k) b (form_of b) s a))
      go true b a h e = by_fold y a h e
      go false b a h e = by_byte b a y e
