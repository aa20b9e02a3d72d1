-- What stays as it was where later words are written: the scope, the locals, the labels, the numbers of uses. And what one more entry brings.
use Prim.Native.Nat.{ℕ, zero, suc, ◌+◌, ◌-◌, ◌*◌, ◌≤◌, ◌<◌, min}
use mathlib.Core.Path.{◌≡◌, refl, ◌∙◌, ap, fun_ext}
use mathlib.Core.List.{List, [], ◌∷◌, ◌++◌, tail}
use lib.ListN.{length, get_or}
use native.Mathlib.Omega.{arith}
use native.Mathlib.Numerals.{add-one}
use Rattle.definition.specs.Syntax.{Identifier, Space, FuncType, code}
use Rattle.definition.specs.Types.{Uses}
use Rattle.definition.specs.Names.{Namespace}
use Rattle.definition.specs.Basic.{same_bytes}
use Rattle.area.specs.Layout.{LABELS, LOCALS, NAMED, TOTAL, USES, STRICT}
use Rattle.syntax.specs.Tokens.{id_of}
use Rattle.syntax.specs.declared.Part.{Part}
use Rattle.name_table.specs.Area.{entry_words, labels}
use Rattle.area.specs.Kept.{Kept}
use Rattle.area.proofs.Kept.{kept_word}
use Rattle.name_table.proofs.Walk.{entry-written}
use Rattle.type_table.specs.Table.{types_in, Recalled}
use Rattle.type_table.proofs.Types as Signatures
use Rattle.name_table.specs.Tables.{base, table_of}
use Rattle.name_table.specs.Definers.{definers_base, definers_of}
use Rattle.name_table.proofs.Holders.{definers-low, definers-same}
use Rattle.name_table.proofs.Tables.{base-low, code_small, words_kept, entry_kept, names-kept}
use Rattle.scope.specs.Scope.{scope_in, locals_in, labels_in}
use Rattle.scope.specs.declared.Locals.{Locals}
use Rattle.area.specs.Flags.{strict_in}
use Rattle.area.proofs.Flags.{flag-kept}

-- ## Words that are kept

module _ (s w w' : List ℕ) (m : ℕ) (k : Kept m w w') where
  -- the labels below a place
  pub labels-kept : (n : ℕ) → LABELS + 3 * n ≤ m → labels_in s w' n ≡ labels_in s w n
  unfolding labels_in labels
  labels-kept zero h = refl
  labels-kept (suc n) h = rw (entry_kept s w w' m k (LABELS + 3 * n) (omega arith), labels-kept n (omega arith))

  pub types-kept : NAMED ≤ m → types_in s w' ≡ types_in s w
  types-kept h = Signatures.types-kept m s h k

  table_kept : LOCALS ≤ m → (j : Space) → table_of j s w' ≡ table_of j s w
  unfolding table_of
  table_kept h j =
      rw (kept_word k (NAMED + code j) (omega (arith, code_small j))) (names-kept s w w' m k (min (get_or w (NAMED + code j) 0) 256) (base j) (omega (arith, base-low j)))

  definers-kept : LOCALS ≤ m → (j : Space) → definers_of j w' ≡ definers_of j w
  unfolding definers_of
  definers-kept h j =
      rw (kept_word k (NAMED + code j) (omega (arith, code_small j)))
      (definers-same (min (get_or w (NAMED + code j) 0) 256) w w' (definers_base j) (λ i l u. kept_word k i (omega (arith, definers-low j))))

module _ (s w w' : List ℕ) where
  pub scope_kept : Kept LOCALS w w' → scope_in s w' ≡ scope_in s w
  unfolding scope_in
  scope_kept k =
      rw (flag-kept STRICT k (omega arith), types-kept s w w' LOCALS k (omega arith))
      (ap (λ (f : Space → Namespace Identifier). record { strict = strict_in w; eq = same_bytes; names = f; definers = λ j. definers_of j w'; all_types = types_in s w }) (fun_ext (table_kept s w w' LOCALS k (omega arith)))
      ∙ ap (λ (f : Space → List ℕ). record { strict = strict_in w; eq = same_bytes; names = λ j. table_of j s w; definers = f; all_types = types_in s w }) (fun_ext (definers-kept s w w' LOCALS k (omega arith))))

  pub locals-kept : (l : Locals) → Kept LABELS w w' → l.count ≤ 128 → locals_in s w' l ≡ locals_in s w l
  unfolding locals_in
  locals-kept l k h = rw (names-kept s w w' LABELS k l.count LOCALS (omega arith))

-- ## Uses

module _ (w : List ℕ) (ts : List FuncType) where
  -- of two lists the first, and the second
  pub recalled-left : (us vs : Uses) → Recalled w ts (us ++ vs) → Recalled w ts us
  unfolding Recalled
  recalled-left [] vs h = tt
  recalled-left ((r, t) ∷ us) vs h = (h.0, h.1, recalled-left us vs h.2)

  pub recalled_right : (us vs : Uses) → Recalled w ts (us ++ vs) → Recalled w ts vs
  unfolding Recalled
  recalled_right [] vs h = h
  recalled_right ((r, t) ∷ us) vs h = recalled_right us vs h.2

  pub recalled-kept : (w' : List ℕ) (m : ℕ) (us : Uses) → Kept m w w' → TOTAL ≤ m → Recalled w ts us → Recalled w' ts us
  unfolding Recalled
  recalled-kept w' m [] k h u = tt
  recalled-kept w' m ((r, t) ∷ us) k h u =
      let low = u.0 in (low, kept_word k (USES + r) (omega arith) ∙ u.1, recalled-kept w' m us k h u.2)

-- and with the types, whose count stands at `TOTAL`
pub recalled-scope : (s w w' : List ℕ) (us : Uses) → Kept LOCALS w w' → Recalled w (types_in s w) us → Recalled w' (types_in s w') us
recalled-scope s w w' us k u = rw (types-kept s w w' LOCALS k (omega arith)) (recalled-kept w (types_in s w) w' LOCALS us k (omega arith) u)

-- ## One more entry

-- a block opens: its label is the innermost
pub labels_open : (s w : List ℕ) (k : ℕ) (p : Part) → LABELS + 3 * k + 2 < length w → labels_in s (entry_words s w (LABELS + 3 * k) p) (k + 1) ≡ id_of s p ∷ labels_in s w k
unfolding labels_in labels
labels_open s w k p h =
    let i = LABELS + 3 * k in
    rw (add-one, entry-written s w i p h) (ap (λ (l : Namespace Identifier). id_of s p ∷ l) (labels-kept s w (entry_words s w i p) i (words_kept s w i p i (omega arith)) k (omega arith)))

-- a block closes
pub labels_close : (s w : List ℕ) (k : ℕ) → tail (labels_in s w k) ≡ labels_in s w (k - 1)
unfolding labels_in labels
labels_close s w zero = refl
labels_close s w (suc k) = (let e : suc k - 1 ≡ k = omega arith in rw e)
