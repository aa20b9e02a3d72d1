-- The code of the lengths, and its loop over the sections.
use Prim.Native.Nat.{ℕ, suc, ◌+◌, ◌-◌, ◌≤◌, ◌<◌}
use mathlib.Core.Path.{◌≡◌, refl}
use mathlib.Core.Bool.{Bool, true, false}
use mathlib.Core.List.{List}
use lib.ListN.{length, get_or}
use native.Mathlib.Omega.{arith}
use borrow.Author.Tests.{eq-eqb, ne_eqb}
use Rattle.definition.specs.Binary.{u}
use Rattle.emit.specs.Put.{past}
use Rattle.area.specs.Flags.{data_named_in}
use Rattle.area.specs.Layout.{SIZE}
use Rattle.kept.specs.Sections.{IMPORT, START, CODE, DATAS, SECTIONS}
use Rattle.kept.specs.declared.tally.Tally.{Tally}
use Rattle.module.specs.Length.{content_len, sized_len, section_len, types_len, lens_from, count_len, module_len}

-- ## One section

pub start_len : (k size count : ℕ) → k ≡ START → size ≡ content_len k size count
unfolding content_len
start_len k size count h = rw (eq-eqb k START h) refl

pub counted_len : (k size count g r : ℕ) → (k ≡ START → ⊥) → g ≡ length (u count) → r ≡ past g size → r ≡ content_len k size count
unfolding content_len
counted_len k size count g r h d e = rw (ne_eqb k START h, e, d) refl

pub sized_len_lem : (n a b r : ℕ) → a ≡ length (u n) → b ≡ past 1 a → r ≡ past b n → r ≡ sized_len n
unfolding sized_len
sized_len_lem n a b r x y z = rw (z, y, x) refl

module _ (t : Tally) (k : ℕ) where
  pub none_len : get_or t.counts k 0 ≡ 0 → 0 ≡ section_len t k
  unfolding section_len
  none_len h = rw (eq-eqb _ 0 h) refl

  pub some_len : (n r : ℕ) → (get_or t.counts k 0 ≡ 0 → ⊥) → n ≡ content_len k (get_or t.sizes k 0) (get_or t.counts k 0) → r ≡ sized_len n → r ≡ section_len t k
  unfolding section_len
  some_len n r h d e = rw (ne_eqb _ 0 h, e, d) refl

-- the section of types
module _ (size : ℕ) where
  pub no_types : size ≡ 0 → 0 ≡ types_len size
  unfolding types_len
  no_types h = rw (eq-eqb size 0 h) refl

  pub some-types : (r : ℕ) → (size ≡ 0 → ⊥) → r ≡ sized_len size → r ≡ types_len size
  unfolding types_len
  some-types r h e = rw (ne_eqb size 0 h, e) refl

-- ## All sections

-- those from k on are to be added to `o`
pub record Adding (t : Tally) (from to at k o : ℕ) : Type 0 where
  pub same : lens_from (to - k) k o t ≡ lens_from (to - from) from at t

pub adding_begin : (t : Tally) (from to at : ℕ) → Adding t from to at from at
adding_begin t from to at = record { same = refl }

module _ {t : Tally} {from to at k o : ℕ} (v : Adding t from to at k o) where
  pub adding_again : (n : ℕ) {r : ℕ} → k < to → n ≡ section_len t k → r ≡ past o n → Adding t from to at (k + 1) r
  unfolding lens_from
  adding_again n {r} h d e =
      let m : to - k ≡ suc (to - (k + 1)) = omega arith in
      let s = v.same in
      record { same = rw (e, d) (rw m at s) }

  pub adding_done : to ≤ k → o ≡ lens_from (to - from) from at t
  unfolding lens_from
  adding_done h = let m : to - k ≡ 0 = omega arith in let s = v.same in rw m at s

pub adding_few : (k to : ℕ) → k < to → to ≤ SECTIONS → k < SECTIONS
adding_few k to h l = omega arith

-- the data count
pub count_none : (t : Tally) (w : List ℕ) (b : Bool) → b ≡ data_named_in w → b ≡ false → 0 ≡ count_len (data_named_in w) t
unfolding count_len
count_none t w b e f = rw (← e, f) refl

pub count-some : (t : Tally) (w : List ℕ) (b : Bool) (n r : ℕ) → b ≡ data_named_in w → b ≡ true → n ≡ length (u (get_or t.counts DATAS 0)) → r ≡ sized_len n → r ≡ count_len (data_named_in w) t
unfolding count_len
count-some t w b n r e f d g = rw (← e, f, g, d) refl

-- all of them
pub all_len : (t : Tally) (w : List ℕ) (size m o a n b r : ℕ) → size ≡ get_or w SIZE 0 → m ≡ types_len size → o ≡ past 8 m → a ≡ lens_from (CODE - IMPORT) IMPORT o t
    → n ≡ count_len (data_named_in w) t → b ≡ past a n → r ≡ lens_from (SECTIONS - CODE) CODE b t → r ≡ module_len (get_or w SIZE 0) (data_named_in w) t
unfolding module_len
all_len t w size m o a n b r i d c x y z e = rw (e, z, y, x, c, d, i) refl
