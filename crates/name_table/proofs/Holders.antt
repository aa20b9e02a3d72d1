-- Laws of the records that defined items: where they begin, a record of them, the holder of a name, and an item more.
use Rattle.std.specs.Prelude.{Option as Optional, Some, None}
use Prim.Native.Nat.{ℕ, zero, suc, ◌+◌, ◌*◌, ◌≤◌, ◌<◌}
use mathlib.Core.Path.{◌≡◌, refl, ◌∙◌, ap}
use mathlib.Core.List.{List, [], ◌∷◌, ◌++◌}
use mathlib.Core.Option.{some}
use mir.Syntax.{w64}
use mir.Val.{Fits}
use lib.ListN.{length, get_or, set, length-set}
use lib.Seq.{get_or-set_same, get_or-set_other}
use borrow.Author.Tests.{eq-eqb, ne_eqb}
use native.Mathlib.Omega.{arith}
use Rattle.definition.specs.Basic.{same_bytes}
use Rattle.definition.specs.Basic as Basic
use Rattle.definition.specs.Syntax.{Space, code}
use Rattle.definition.specs.Names.{find}
use Rattle.definition.specs.Names as Names
use Rattle.area.specs.Layout.{WORDS, NAMES, DEFINERS, LOCALS}
use Rattle.area.specs.Kept.{Kept}
use Rattle.area.proofs.Kept.{kept_set, kept_then}
use Rattle.syntax.specs.Tokens.{part_of}
use Rattle.syntax.specs.declared.Part.{Part}
use Rattle.name_table.specs.Area.{entry_words, names, found}
use Rattle.name_table.specs.Tables.{base}
use Rattle.name_table.specs.Definers.{definers_base, definers_in, holder_in, held_by, item_words}
use Rattle.name_table.proofs.Tables.{code_small, base-low, base_high, words_other, words_length, words_kept, names-kept}
use Rattle.name_table.proofs.Walk.{names-below}

-- ## Where the records of a space begin

module _ (k : Space) where
  pub definers-low : definers_base k + 256 ≤ LOCALS
  unfolding definers_base
  definers-low = omega (arith, code_small k)

  pub definers_high : DEFINERS ≤ definers_base k
  unfolding definers_base
  definers_high = omega arith

module _ (k : Space) (c : ℕ) (e : c ≡ code k) where
  pub definers_mul : Fits w64 (256 * c)
  definers_mul = record { fits = omega (arith, code_small k) }

  pub definers_add : Fits w64 (DEFINERS + 256 * c)
  definers_add = record { fits = omega (arith, code_small k) }

  pub definers-is : DEFINERS + 256 * c ≡ definers_base k
  unfolding definers_base
  definers-is = rw e

-- ## A record of them

pub definer_at : (n : ℕ) (w : List ℕ) (b i : ℕ) → i < n → Basic.at (definers_in n w b) i ≡ some (get_or w (b + i) 0)
unfolding definers_in Basic.at
definer_at zero w b i h = absurd (omega arith)
definer_at (suc n) w b zero h = (let e : b + 0 ≡ b = omega arith in rw e)
definer_at (suc n) w b (suc i) h = (let e : b + suc i ≡ b + 1 + i = omega arith in rw e (definer_at n w (b + 1) i (omega arith)))

-- the last of them, after the others
pub definers_snoc : (n : ℕ) (w : List ℕ) (b : ℕ) → definers_in (suc n) w b ≡ definers_in n w b ++ (get_or w (b + n) 0 ∷ [])
unfolding definers_in
definers_snoc zero w b = (let e : b + 0 ≡ b = omega arith in rw e)
definers_snoc (suc n) w b = (let e : b + 1 + n ≡ b + suc n = omega arith in ap (λ (l : List ℕ). get_or w b 0 ∷ l) (definers_snoc n w (b + 1) ∙ rw e))

-- words that are the same make the same records
pub definers-same : (n : ℕ) (w w' : List ℕ) (b : ℕ) → ((i : ℕ) → b ≤ i → i < b + n → get_or w' i 0 ≡ get_or w i 0) → definers_in n w' b ≡ definers_in n w b
unfolding definers_in
definers-same zero w w' b h = refl
definers-same (suc n) w w' b h = rw (h b (omega arith) (omega arith), definers-same n w w' (b + 1) (λ i l g. h i (omega arith) (omega arith)))

-- ## The holder of a name

-- the names lie in the area
pub held-table : (w : List ℕ) (k : Space) (n b : ℕ) → WORDS ≤ length w → n ≤ 256 → b ≡ base k → b + 3 * n ≤ length w
held-table w k n b long few d = omega (arith, base-low k)

module _ (n : ℕ) (k : Space) (s w : List ℕ) (p : Part) where
  -- no identifier has no holder
  pub held_none : p.len ≡ 0 → holder_in n k s w p ≡ held_by None
  unfolding holder_in Names.holder
  held_none e = rw (eq-eqb _ _ e)

  module _ (b : ℕ) (d : b ≡ base k) (name : List ℕ) (q : Optional ℕ) (h : p.len ≡ 0 → ⊥) (e : name ≡ part_of s p) (told : find same_bytes name (names n s w b) ≡ found q) where
    -- a name that is not there has none
    pub held_not : q ≡ None → holder_in n k s w p ≡ held_by None
    unfolding holder_in Names.holder
    held_not g = rw (ne_eqb _ _ h, ← e, ← d, told, g)

    module _ (i : ℕ) (g : q ≡ Some i) where
      low : i < n
      low = names-below name q i g s w b n told

      -- the word of the first that carries it
      pub held_place : n ≤ 256 → (a : ℕ) → a ≡ definers_base k → Fits w64 (a + i)
      held_place few a f = record { fits = omega (arith, definers-low k, low) }

      pub held_at : (a r : ℕ) → a ≡ definers_base k → r ≡ get_or w (a + i) 0 → holder_in n k s w p ≡ held_by (Some r)
      unfolding holder_in Names.holder
      held_at a r f l = rw (ne_eqb _ _ h, ← e, ← d, told, g, l, f) (definer_at n w (definers_base k) i low)

pub ruleset helds = (held_none, held_not, held_at)

-- ## An item more

module _ (s w : List ℕ) (k : Space) (n b : ℕ) (low : n < 256) (d : b ≡ base k) where
  pub item-place : Fits w64 (b + 3 * n)
  item-place = record { fits = omega (arith, base-low k) }

  pub item-entry : WORDS ≤ length w → b + 3 * n + 2 < length w
  item-entry long = omega (arith, base-low k)

  module _ (a : ℕ) (e : a ≡ definers_base k) where
    pub item_definer : Fits w64 (a + n)
    item_definer = record { fits = omega (arith, definers-low k) }

    -- its place in bytes
    pub item_word : Fits w64 ((a + n) * 4)
    item_word = record { fits = omega (arith, definers-low k) }

    module _ (p : Part) (v : List ℕ) (f : v ≡ entry_words s w (b + 3 * n) p) where
      pub item_room : WORDS ≤ length w → a + n < length v
      item_room long = (let g = words_length s w (b + 3 * n) p in rw (f, g) (omega (arith, definers-low k)))

      pub item_words_lem : (r : ℕ) → set v (a + n) r ≡ item_words s w k n p r
      unfolding item_words
      item_words_lem r = rw (f, d, e)

module _ (s w : List ℕ) (j : Space) (m : ℕ) (p : Part) (r : ℕ) (low : m < 256) where
  abbrev v : List ℕ
  v = entry_words s w (base j + 3 * m) p

  -- its record's word stands after all names
  pub item-names : (n : ℕ) (k : Space) → n ≤ 256 → names n s (item_words s w j m p r) (base k) ≡ names n s v (base k)
  unfolding item_words
  item-names n k few =
      names-kept s v (set v (definers_base j + m) r) DEFINERS (kept_set DEFINERS (definers_base j + m) r v (omega (arith, definers_high j))) n (base k) (omega (arith, base-low k))

  -- and of the words there it is the only one that is written
  pub item-other : (i : ℕ) → DEFINERS ≤ i → (i ≡ definers_base j + m → ⊥) → get_or (item_words s w j m p r) i 0 ≡ get_or w i 0
  unfolding item_words
  item-other i h d =
      let l = base-low j in
      get_or-set_other v (definers_base j + m) i r 0 d ∙ words_other s w (base j + 3 * m) p i (λ e. omega arith) (λ e. omega arith) (λ e. omega arith)

  pub item-length : length (item_words s w j m p r) ≡ length w
  unfolding item_words
  item-length = length-set v (definers_base j + m) r ∙ words_length s w (base j + 3 * m) p

  pub item-same : WORDS ≤ length w → get_or (item_words s w j m p r) (definers_base j + m) 0 ≡ r
  unfolding item_words
  item-same long =
      let e = words_length s w (base j + 3 * m) p in
      get_or-set_same v (definers_base j + m) r 0 (rw e (omega (arith, definers-low j)))

  pub item-kept : Kept NAMES w (item_words s w j m p r)
  unfolding item_words
  item-kept =
      kept_then (words_kept s w (base j + 3 * m) p NAMES (omega (arith, base_high j))) (kept_set NAMES (definers_base j + m) r v (omega (arith, definers_high j)))
