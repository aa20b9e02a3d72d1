-- The tables hold what has been registered: one item more, and the items of a field.
use Rattle.std.specs.Prelude.{if◌then◌else◌}
use Prim.Native.Nat.{ℕ, suc, ◌+◌, ◌*◌, ◌≤◌, ◌<◌}
use mathlib.Core.Path.{◌≡◌, refl, sym, ◌∙◌, ap}
use mathlib.Core.Bool.{Bool, true, false}
use mathlib.Core.List.{List, [], ◌∷◌, ◌++◌, append_assoc, append-nil}
use lib.ListN.{length, get_or, length-set}
use lib.Seq.{get_or-set_same, get_or-set_other}
use lib.Dec.{eqb}
use borrow.Author.Tests.{eqb-true, eqb-false, lt-ltb}
use native.Mathlib.Omega.{arith}
use native.Mathlib.Decide.{dec_le}
use Rattle.definition.specs.Basic.{same_bytes}
use Rattle.definition.specs.Syntax.{Identifier, Space, code, same_space}
use Rattle.definition.specs.Names.{Items, space, definers, holder}
use Rattle.area.specs.Layout.{WORDS}
use Rattle.syntax.specs.Tokens.{id_of}
use Rattle.syntax.specs.declared.Part.{Part}
use Rattle.syntax.specs.Items.{count_of}
use Rattle.syntax.specs.declared.Seen.{Seen}
use Rattle.counting.specs.Counting.{up, one_more}
use Rattle.name_table.specs.Area.{entry, entry_words, names}
use Rattle.name_table.proofs.Walk.{entry-written}
use Rattle.name_table.proofs.Tables.{base-low, code_small, names_high, names-low, names_snoc}
use Rattle.name_table.proofs.Holders.{definers_high, definers_snoc, definers-same, item-names, item-other, item-same}
use Rattle.registration.specs.Register.{table_at, definers_at}
use Rattle.name_table.specs.Tables.{base}
use Rattle.name_table.specs.Definers.{definers_base, definers_in, holder_in, item_words}

-- ## One item more

-- the tables, as far as items have come
pub record Holding (s w : List ℕ) (seen : Seen) (xs : Items Identifier) : Type 0 where
  pub each : (k : Space) → space k xs ≡ table_at seen k s w
  pub made : (k : Space) → definers k xs ≡ definers_at seen k w
  pub few : (k : Space) → count_of seen k ≤ 256
  pub seven : length seen.counts ≡ 7

space-append : (k : Space) (xs ys : Items Identifier) → space k (xs ++ ys) ≡ space k xs ++ space k ys
unfolding space
space-append k [] ys = refl
space-append k ((r, j, i) ∷ xs) ys = rw (space-append k xs ys) (sym (append_assoc (if same_space k j then i ∷ [] else []) (space k xs) (space k ys)))

definers-append : (k : Space) (xs ys : Items Identifier) → definers k (xs ++ ys) ≡ definers k xs ++ definers k ys
unfolding definers
definers-append k [] ys = refl
definers-append k ((r, j, i) ∷ xs) ys = rw (definers-append k xs ys) (sym (append_assoc (if same_space k j then r ∷ [] else []) (definers k xs) (definers k ys)))

-- two tables do not meet
apart : (k j : Space) (n m : ℕ) → n ≤ 256 → m < 256 → (code k ≡ code j → ⊥) → (base k + 3 * n ≤ base j + 3 * m → ⊥) → base j + 3 * m + 3 ≤ base k
unfolding base
apart k j n m h g d e = omega arith

-- two tables of records do not
records_apart : (k j : Space) (n m i : ℕ) → n ≤ 256 → m < 256 → (code k ≡ code j → ⊥) → definers_base k ≤ i → i < definers_base k + n → i ≡ definers_base j + m → ⊥
unfolding definers_base
records_apart k j n m i h g d a b e = omega arith

-- the holder of a name among them
pub holding_holder : (s w : List ℕ) (seen : Seen) (xs : Items Identifier) → Holding s w seen xs → (k : Space) (p : Part)
    → holder same_bytes (id_of s p) (space k xs) (definers k xs) ≡ holder_in (count_of seen k) k s w p
unfolding table_at definers_at holder_in
holding_holder s w seen xs h k p = rw (h.each k, h.made k) refl

module _ (s w : List ℕ) (seen : Seen) (xs : Items Identifier) (h : Holding s w seen xs) (j : Space) (p : Part) (r : ℕ) (low : count_of seen j < 256) (long : WORDS ≤ length w) where
  abbrev v : List ℕ
  v = entry_words s w (base j + 3 * count_of seen j) p

  abbrev w' : List ℕ
  w' = item_words s w j (count_of seen j) p r

  count_same : (k : Space) → code k ≡ code j → count_of (one_more seen j) k ≡ count_of seen k + 1
  unfolding one_more up
  count_same k d =
      let l : code j < length seen.counts = omega (arith, code_small j, h.seven) in
      rw (d, get_or-set_same seen.counts (code j) _ 0 l, lt-ltb _ _ low) refl

  count-other : (k : Space) → (code k ≡ code j → ⊥) → count_of (one_more seen j) k ≡ count_of seen k
  unfolding one_more
  count-other k d = get_or-set_other seen.counts (code j) (code k) _ 0 d

  table_same : (k : Space) → code k ≡ code j → table_at (one_more seen j) k s w' ≡ table_at seen k s w ++ (id_of s p ∷ [])
  unfolding table_at base
  table_same k d =
      let c : count_of (one_more seen j) k ≡ suc (count_of seen k) = count_same k d ∙ omega arith in
      let e : count_of seen k ≡ count_of seen j = ap (λ n. get_or seen.counts n 0) d in
      let a : names (count_of seen k) s v (base k) ≡ names (count_of seen k) s w (base k) = names-low s w (base j + 3 * count_of seen j) p (count_of seen k) (base k) (omega arith) in
      let g : base k + 3 * count_of seen k ≡ base j + 3 * count_of seen j = omega arith in
      let b : entry s v (base k + 3 * count_of seen k) ≡ id_of s p = rw g (entry-written s w (base j + 3 * count_of seen j) p (omega (arith, base-low j))) in
      rw (c, item-names s w j (count_of seen j) p r low (suc (count_of seen k)) k (omega arith), names_snoc (count_of seen k) s v (base k), a, b) refl

  table-other : (k : Space) → (code k ≡ code j → ⊥) → table_at (one_more seen j) k s w' ≡ table_at seen k s w
  unfolding table_at
  table-other k d = rw (count-other k d, item-names s w j (count_of seen j) p r low (count_of seen k) k (h.few k)) (go (dec_le (base k + 3 * count_of seen k) (base j + 3 * count_of seen j)))
    where
      go : Dec (base k + 3 * count_of seen k ≤ base j + 3 * count_of seen j) → names (count_of seen k) s v (base k) ≡ names (count_of seen k) s w (base k)
      go (yes e) = names-low s w (base j + 3 * count_of seen j) p (count_of seen k) (base k) e
      go (no e) = names_high s w (base j + 3 * count_of seen j) p (count_of seen k) (base k) (apart k j (count_of seen k) (count_of seen j) (h.few k) low d e)

  records-same : (k : Space) → code k ≡ code j → definers_at (one_more seen j) k w' ≡ definers_at seen k w ++ (r ∷ [])
  unfolding definers_at definers_base
  records-same k d =
      let c : count_of (one_more seen j) k ≡ suc (count_of seen k) = count_same k d ∙ omega arith in
      let e : count_of seen k ≡ count_of seen j = ap (λ n. get_or seen.counts n 0) d in
      let g : definers_base k + count_of seen k ≡ definers_base j + count_of seen j = omega arith in
      let a : definers_in (count_of seen k) w' (definers_base k) ≡ definers_in (count_of seen k) w (definers_base k) =
      definers-same (count_of seen k) w w' (definers_base k) (λ i l u. item-other s w j (count_of seen j) p r low i (omega (arith, definers_high k)) (λ f. omega arith)) in
      let b : get_or w' (definers_base k + count_of seen k) 0 ≡ r = rw g (item-same s w j (count_of seen j) p r low long) in
      rw (c, definers_snoc (count_of seen k) w' (definers_base k), a, b) refl

  records-other : (k : Space) → (code k ≡ code j → ⊥) → definers_at (one_more seen j) k w' ≡ definers_at seen k w
  unfolding definers_at
  records-other k d =
      rw (count-other k d) (definers-same (count_of seen k) w w' (definers_base k) (λ i l u.
      item-other s w j (count_of seen j) p r low i (omega (arith, definers_high k)) (records_apart k j (count_of seen k) (count_of seen j) i (h.few k) low d l u)))

  pub holding_more : Holding s w' (one_more seen j) (xs ++ ((r, j, id_of s p) ∷ []))
  unfolding space definers
  holding_more = record { each = λ k. go k (eqb (code k) (code j)) refl; made = λ k. own k (eqb (code k) (code j)) refl; few = λ k. less k (eqb (code k) (code j)) refl; seven = long_as }
    where
      long_as : length (one_more seen j).counts ≡ 7
      long_as = unfold one_more in length-set seen.counts (code j) _ ∙ h.seven

      less : (k : Space) (t : Bool) → eqb (code k) (code j) ≡ t → count_of (one_more seen j) k ≤ 256
      less k true e =
          let d = eqb-true _ _ e in
          let f : count_of seen k ≡ count_of seen j = ap (λ n. get_or seen.counts n 0) d in
          omega (arith, count_same k d)
      less k false e = omega (arith, count-other k (eqb-false _ _ e), h.few k)

      go : (k : Space) (t : Bool) → eqb (code k) (code j) ≡ t → space k (xs ++ ((r, j, id_of s p) ∷ [])) ≡ table_at (one_more seen j) k s w'
      go k true e = rw (space-append k xs, e, h.each k) (sym (table_same k (eqb-true _ _ e)))
      go k false e = rw (space-append k xs, e, append-nil, h.each k) (sym (table-other k (eqb-false _ _ e)))

      own : (k : Space) (t : Bool) → eqb (code k) (code j) ≡ t → definers k (xs ++ ((r, j, id_of s p) ∷ [])) ≡ definers_at (one_more seen j) k w'
      own k true e = rw (definers-append k xs, e, h.made k) (sym (records-same k (eqb-true _ _ e)))
      own k false e = rw (definers-append k xs, e, append-nil, h.made k) (sym (records-other k (eqb-false _ _ e)))
