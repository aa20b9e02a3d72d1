-- Tallies: several entries of one section at once, one list after the other, and what they say of a section in the end.
use Prim.Native.Nat.{ℕ, zero, suc, ◌+◌, ◌<◌}
use mathlib.Core.Path.{◌≡◌, refl, sym, ◌∙◌, ap}
use mathlib.Core.Bool.{Bool, true, false}
use mathlib.Core.List.{List, [], ◌∷◌, ◌++◌, map}
use lib.ListN.{length, get_or, set, length-set, length-append}
use lib.Seq.{get_or-set_same, get_or-set_other}
use lib.Dec.{eqb}
use borrow.Author.Tests.{eqb-true, eqb-false}
use native.Mathlib.Omega.{arith}
use Rattle.definition.specs.Basic.{concat_map}
use Rattle.definition.specs.Syntax.{Bytes}
use Rattle.definition.specs.Binary.{in_section, joined}
use Rattle.emit.specs.Put.{past}
use Rattle.deinline.specs.Entry.{Entries}
use Rattle.kept.specs.Sections.{SECTIONS}
use Rattle.kept.specs.Tally.{added, reached, tallies, Slots}
use Rattle.kept.specs.declared.tally.Tally.{Tally}

-- ## Places that saturate

pub past-none : (a : ℕ) → past a 0 ≡ a
unfolding past
past-none a = omega arith

past-past : (a m n : ℕ) → past (past a m) n ≡ past a (m + n)
unfolding past
past-past a m n = omega arith

one_plus : (n : ℕ) → 1 + n ≡ suc n
one_plus n = omega arith

-- ## Words of a list

set-set : (l : List ℕ) (i x y : ℕ) → set (set l i x) i y ≡ set l i y
set-set [] i x y = refl
set-set (a ∷ l) zero x y = refl
set-set (a ∷ l) (suc i) x y = ap (λ (z : List ℕ). a ∷ z) (set-set l i x y)

set_itself : (l : List ℕ) (i : ℕ) → set l i (get_or l i 0) ≡ l
set_itself [] i = refl
set_itself (a ∷ l) zero = refl
set_itself (a ∷ l) (suc i) = ap (λ (z : List ℕ). a ∷ z) (set_itself l i)

-- ## Entries

-- one list after the other
pub tallies-append : (t : Tally) (xs ys : Entries) → tallies t (xs ++ ys) ≡ tallies (tallies t xs) ys
unfolding tallies
tallies-append t [] ys = refl
tallies-append t ((k, b) ∷ xs) ys = tallies-append (added t k (length b) 1) xs ys

added_slots : (t : Tally) (k m n : ℕ) → Slots t → Slots (added t k m n)
unfolding added
added_slots t k m n h = record { sizes = length-set t.sizes k _ ∙ h.sizes; counts = length-set t.counts k _ ∙ h.counts }

pub tallies_slots : (t : Tally) (es : Entries) → Slots t → Slots (tallies t es)
unfolding tallies
tallies_slots t [] h = h
tallies_slots t ((k, b) ∷ es) h = tallies_slots (added t k (length b) 1) es (added_slots t k (length b) 1 h)

joined_cons : (b : Bytes) (bs : List Bytes) → length (joined (b ∷ bs)) ≡ length b + length (joined bs)
unfolding joined concat_map
joined_cons b bs = length-append b (joined bs)

-- two additions to one section are one
added_twice : (t : Tally) (k m n i j : ℕ) → k < SECTIONS → Slots t → added (added t k m n) k i j ≡ added t k (m + i) (n + j)
unfolding added
added_twice t k m n i j h w =
    let a : k < length t.sizes = omega (arith, w.sizes) in
    let b : k < length t.counts = omega (arith, w.counts) in
    rw (
      get_or-set_same t.sizes k (past (get_or t.sizes k 0) m) 0 a,
      get_or-set_same t.counts k (past (get_or t.counts k 0) n) 0 b,
      set-set t.sizes k,
      set-set t.counts k,
      past-past (get_or t.sizes k 0) m i,
      past-past (get_or t.counts k 0) n j,
    )
    refl

added_none : (t : Tally) (k : ℕ) → added t k 0 0 ≡ t
unfolding added
added_none t k = rw (past-none (get_or t.sizes k 0), past-none (get_or t.counts k 0), set_itself t.sizes k, set_itself t.counts k) refl

-- the entries of one section at once
pub tallies-one : (t : Tally) (k : ℕ) (bs : List Bytes) → k < SECTIONS → Slots t → tallies t (map (λ b. (k, b)) bs) ≡ added t k (length (joined bs)) (length bs)
unfolding tallies joined concat_map
tallies-one t k [] h w = sym (added_none t k)
tallies-one t k (b ∷ bs) h w =
    tallies-one (added t k (length b) 1) k bs h (added_slots t k (length b) 1 w)
    ∙ added_twice t k (length b) 1 (length (joined bs)) (length bs) h w
    ∙ ap (λ n. added t k n (1 + length bs)) (sym (joined_cons b bs))
    ∙ ap (λ n. added t k (length (joined (b ∷ bs))) n) (one_plus (length bs))

-- ## What a tally says of a section

in_other : (k j : ℕ) (b : Bytes) (es : Entries) → eqb k j ≡ false → in_section k ((j, b) ∷ es) ≡ in_section k es
unfolding in_section
in_other k j b es e = rw e

in_same : (k j : ℕ) (b : Bytes) (es : Entries) → eqb k j ≡ true → in_section k ((j, b) ∷ es) ≡ b ∷ in_section k es
unfolding in_section
in_same k j b es e = rw e

module _ (t : Tally) (w : Slots t) (j m n : ℕ) where
  size-here : j < SECTIONS → get_or (added t j m n).sizes j 0 ≡ past (get_or t.sizes j 0) m
  unfolding added
  size-here h = get_or-set_same t.sizes j (past (get_or t.sizes j 0) m) 0 (omega (arith, w.sizes))

  size-there : (k : ℕ) → (k ≡ j → ⊥) → get_or (added t j m n).sizes k 0 ≡ get_or t.sizes k 0
  unfolding added
  size-there k d = get_or-set_other t.sizes j k (past (get_or t.sizes j 0) m) 0 d

  count-here : j < SECTIONS → get_or (added t j m n).counts j 0 ≡ past (get_or t.counts j 0) n
  unfolding added
  count-here h = get_or-set_same t.counts j (past (get_or t.counts j 0) n) 0 (omega (arith, w.counts))

  count-there : (k : ℕ) → (k ≡ j → ⊥) → get_or (added t j m n).counts k 0 ≡ get_or t.counts k 0
  unfolding added
  count-there k d = get_or-set_other t.counts j k (past (get_or t.counts j 0) n) 0 d

module _ (k : ℕ) (h : k < SECTIONS) where
  pub size_is : (t : Tally) (es : Entries) → Slots t → get_or (tallies t es).sizes k 0 ≡ past (get_or t.sizes k 0) (length (joined (in_section k es)))
  unfolding tallies
  size_is t [] w = unfold in_section joined concat_map in sym (past-none (get_or t.sizes k 0))
  size_is t ((j, b) ∷ es) w = size_is (added t j (length b) 1) es (added_slots t j (length b) 1 w) ∙ go (eqb k j) refl
    where
      go : (e : Bool) → eqb k j ≡ e → past (get_or (added t j (length b) 1).sizes k 0) (length (joined (in_section k es)))
          ≡ past (get_or t.sizes k 0) (length (joined (in_section k ((j, b) ∷ es))))
      go true d =
          let z : k ≡ j = eqb-true _ _ d in
          rw (in_same k j b es d, joined_cons b (in_section k es), z, size-here t w j (length b) 1 (omega arith))
          (past-past (get_or t.sizes j 0) (length b) (length (joined (in_section j es))))
      go false d = rw (in_other k j b es d, size-there t w j (length b) 1 k (eqb-false _ _ d)) refl

  pub count-is : (t : Tally) (es : Entries) → Slots t → get_or (tallies t es).counts k 0 ≡ past (get_or t.counts k 0) (length (in_section k es))
  unfolding tallies
  count-is t [] w = unfold in_section in sym (past-none (get_or t.counts k 0))
  count-is t ((j, b) ∷ es) w = count-is (added t j (length b) 1) es (added_slots t j (length b) 1 w) ∙ go (eqb k j) refl
    where
      go : (e : Bool) → eqb k j ≡ e → past (get_or (added t j (length b) 1).counts k 0) (length (in_section k es))
          ≡ past (get_or t.counts k 0) (length (in_section k ((j, b) ∷ es)))
      go true d =
          let z : k ≡ j = eqb-true _ _ d in
          rw (in_same k j b es d, z, count-here t w j (length b) 1 (omega arith)) (past-past (get_or t.counts j 0) 1 (length (in_section j es)) ∙ ap (past (get_or t.counts j 0)) (one_plus (length (in_section j es))))
      go false d = rw (in_other k j b es d, count-there t w j (length b) 1 k (eqb-false _ _ d)) refl

-- ## The code

pub reach_is : (t : Tally) (k to b n : ℕ) → b ≡ past (get_or t.counts k 0) n → record { sizes = set t.sizes k to; counts = set t.counts k b } ≡ reached t k to n
unfolding reached
reach_is t k to b n e = rw e refl
