-- The depth of a block, and the label on an else or an end.
use Prim.Native.Nat.{ℕ, zero, suc, ◌+◌, ◌-◌, ◌*◌, ◌≤◌, ◌<◌}
use mathlib.Core.Path.{◌≡◌, refl}
use mathlib.Core.Bool.{Bool, true, false}
use mathlib.Core.List.{List, ◌∷◌}
use lib.ListN.{length}
use borrow.Author.Tests.{eq-eqb, ne_eqb}
use native.Mathlib.Omega.{arith}
use Rattle.definition.specs.Basic.{Answer, ok, ◌>>=◌, same_bytes}
use Rattle.definition.specs.Syntax.{Identifier, Index, Depth}
use Rattle.definition.specs.Names.{carries, number_in, depth_of, closes}
use Rattle.syntax.specs.Refusals.{refusal, refused_by}
use Rattle.syntax.specs.declared.Refusal.{Refusal}
use Rattle.syntax.specs.declared.Fault.TheVariants as F
use Rattle.syntax.proofs.Ways.{refusal_handed}
use Rattle.area.specs.Layout.{LABELS, WORDS}
use Rattle.syntax.specs.Tokens.{part_of, id_of}
use Rattle.syntax.specs.declared.Part.{Part}
use Rattle.name_table.specs.Area.{entry, labels}
use Rattle.scope.specs.Scope.{scope_in, labels_in}
use Rattle.area.specs.Flags.{strict_in}
use Rattle.name_table.proofs.Walk.{labels_length}

-- the labels lie in the area
pub label-table : (w : List ℕ) (k : ℕ) → WORDS ≤ length w → k ≤ 128 → LABELS + 3 * k ≤ length w
label-table w k h l = omega arith

pub label-entry : (w : List ℕ) (k : ℕ) → WORDS ≤ length w → k ≤ 128 → LABELS + 3 * (k - 1) + 2 < length w
label-entry w k h l = omega arith

-- ## Depths

module _ (s w : List ℕ) (k r : ℕ) (x : Index Identifier) where
  pub depth_to : (n : ℕ) → number_in (strict_in w) same_bytes (labels k s w LABELS) (k + 1) r x ≡ ok n → depth_of (scope_in s w) (labels_in s w k) r x ≡ ok (record { depth = n })
  unfolding depth_of scope_in labels_in ◌>>=◌
  depth_to n e = rw (labels_length k s w LABELS, e)

  pub depth-refused : (z : Refusal) (a : Answer Depth) → number_in (strict_in w) same_bytes (labels k s w LABELS) (k + 1) r x ≡ refused_by z → refused_by z ≡ a → depth_of (scope_in s w) (labels_in s w k) r x ≡ a
  unfolding depth_of scope_in labels_in ◌>>=◌
  depth-refused z a e h = rw (labels_length k s w LABELS, e) h

pub ruleset depths = (depth_to, depth-refused, refusal_handed)

-- ## The label on an else or an end

module _ (s w : List ℕ) (k r : ℕ) (p : Part) where
  -- there is none
  pub closes-plain : p.len ≡ 0 → closes (scope_in s w) r (id_of s p) (labels_in s w k) ≡ ok tt
  unfolding closes
  closes-plain e = rw (eq-eqb _ _ e)

  -- no block is open
  pub closes-nothing : (p.len ≡ 0 → ⊥) → k ≡ 0 → closes (scope_in s w) r (id_of s p) (labels_in s w k) ≡ ok tt
  unfolding closes labels_in labels
  closes-nothing h e = rw (ne_eqb _ _ h, e)

  -- the innermost block, and the others
  inner : (k ≡ 0 → ⊥) → labels k s w LABELS ≡ entry s w (LABELS + 3 * (k - 1)) ∷ labels (k - 1) s w LABELS
  unfolding labels
  inner h = go k h
    where
      go : (n : ℕ) → (n ≡ 0 → ⊥) → labels n s w LABELS ≡ entry s w (LABELS + 3 * (n - 1)) ∷ labels (n - 1) s w LABELS
      go zero h = absurd (h refl)
      go (suc n) h = (let e : suc n - 1 ≡ n = omega arith in rw e)

  module _ (h : p.len ≡ 0 → ⊥) (g : k ≡ 0 → ⊥) (name : List ℕ) (b : name ≡ part_of s p) (t : Bool) (told : t ≡ carries same_bytes name (entry s w (LABELS + 3 * (k - 1)))) where
    -- the innermost block carries it
    pub closes_inner : t ≡ true → closes (scope_in s w) r (id_of s p) (labels_in s w k) ≡ ok tt
    unfolding closes scope_in labels_in
    closes_inner e = rw (ne_eqb _ _ h, inner g, ← b, ← told, e)

    -- it does not
    pub closes-other : (z : Refusal) → t ≡ false → z ≡ refusal F.OtherLabel r → closes (scope_in s w) r (id_of s p) (labels_in s w k) ≡ refused_by z
    unfolding closes scope_in labels_in
    closes-other z e f = rw (ne_eqb _ _ h, inner g, ← b, ← told, e, f)

pub ruleset closings = (closes-plain, closes-nothing, closes_inner, closes-other)
