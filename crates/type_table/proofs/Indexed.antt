-- Plain mathematics of the index over types.
use Rattle.std.specs.Prelude.{Option as Optional, Some, None}
use Rattle.std.specs.Prelude.{if◌then◌else◌}
use Prim.Native.Nat.{ℕ, ◌+◌, ◌-◌, ◌*◌, ◌/◌, ◌%◌, ◌≤◌, ◌<◌}
use mathlib.Core.Path.{◌≡◌, refl, sym, ◌∙◌, ap}
use mathlib.Core.Bool.{Bool, true, false, ◌&&◌, not, false≢true}
use mathlib.Core.List.{List, [], ◌∷◌, ◌++◌}
use mathlib.Core.Option.{none, some}
use lib.ListN.{length, get_or, set, length-set}
use lib.Seq.{get_or-set_same, get_or-set_other}
use lib.Dec.{eqb}
use borrow.Author.Tests.{eq-eqb, ne_eqb, eqb-true, eqb-false}
use native.Mathlib.Decide.{dec_le, dec_lt}
use native.Mathlib.Omega.{arith}
use Rattle.definition.specs.Basic.{same_bytes, first_at}
use Rattle.definition.specs.Syntax.{Bytes, FuncType}
use Rattle.definition.specs.Types.{same_type, type_at}
use mir.Syntax.{w32}
use mir.Val.{Fits}
use Rattle.definition.specs.Binary.{types_size}
use Rattle.area.specs.Layout.{BYTES, HASHES, HEADS, LINKS, SIZE, TYPES, USES}
use Rattle.area.specs.Kept.{Kept}
use Rattle.area.proofs.Kept.{kept_set, kept_then, kept_word}
use Rattle.type_table.specs.Hash.{BUCKETS, HALF, hash_of}
use Rattle.syntax.specs.declared.List as Code
use Rattle.syntax.specs.declared.TypeUse.{TypeUse}
use Rattle.type_table.specs.Table.{of_use, types_of, signature_of, entry_in, type_table, number_of, type_words, head_of, branch_of, link_at, hash_is, is_type, in_tree, found_in, free_from, free_place, Indexed, hash_words, bare_words, tree_words, Inside, HeadsEmptied, Emptied, Both, Fresh, Again, Adds}
use Rattle.type_table.specs.Known.{ReadableSignature}
use Rattle.type_table.specs.Size.{hashed, more, signature_size, size_words}
use Rattle.type_table.specs.declared.entry.Signature.{Signature}
use Rattle.type_table.specs.declared.index.Hashed.{Hashed}
use Rattle.type_table.specs.declared.list.NextBoth.{NextBoth}
use Rattle.type_table.specs.declared.list.NextBoth.TheVariants as B
use Rattle.type_table.proofs.Entries.{same_not, same-results, inside-same, inside-set, inside_then, inside-above, entry_kept, type-inside, type-written}
use Rattle.type_table.proofs.Known.{entry-readable}
use Rattle.type_table.proofs.Lists.{InStep, in_step_differ, in_step_end}
use Rattle.type_table.proofs.Sizes.{added-size, size_fits}
use Rattle.type_table.proofs.Trees.{leads, link_none, tree_none, tree_turn, free-here, free-turn, Reached, reached_link, reached-left, reached_again, Low, Bare, Trees, trees_of, Unmoved, trees_kept, trees_below, same-one, type_miss, type_again, low-more, planted_inside, planted_trees}
use Rattle.type_table.proofs.Types.{table-length, table_kept, table_more}

-- nothing was found
pub none_found : (s w : List ℕ) (count : ℕ) (x : Signature) (h : Hashed) (q : Optional ℕ) → Indexed s w count → ReadableSignature s x → h ≡ hashed (signature_of s x)
    → type_at (signature_of s x) (type_table count s w TYPES) ≡ number_of q → q ≡ None → Fresh s w count x h
none_found s w count x h q v k is e d = record { indexed = v; walked = is; missing = e ∙ ap number_of d; readable = k }

-- of a use
pub none-used : (s w : List ℕ) (count : ℕ) (t : TypeUse) (x : Signature) (h : Hashed) (q : Optional ℕ) → x ≡ of_use t → Indexed s w count → ReadableSignature s x → h ≡ hashed (signature_of s x)
    → type_at (signature_of s x) (type_table count s w TYPES) ≡ number_of q → q ≡ None → Fresh s w count (of_use t) h
none-used s w count t x h q of v k is e d = rw (← of) (none_found s w count x h q v k is e d)

-- an equal type was found
pub some-found : (s w : List ℕ) (count : ℕ) (x : Signature) (h : Hashed) (q : Optional ℕ) (n : ℕ) → Indexed s w count → ReadableSignature s x → h ≡ hashed (signature_of s x)
    → type_at (signature_of s x) (type_table count s w TYPES) ≡ number_of q → q ≡ Some n → Again s w count x h
some-found s w count x h q n v k is e d = record { indexed = v; walked = is; number = n; found = e ∙ ap number_of d; readable = k }

-- ## The words of the index

module _ (w : List ℕ) (n h : ℕ) where
  pub hash_differs : (a : ℕ) → a ≡ h % HALF → (get_or w (HASHES + 2 * n) 0 ≡ a → ⊥) → false ≡ hash_is w n h
  unfolding hash_is
  hash_differs a e f = sym (rw (← e, ne_eqb (get_or w (HASHES + 2 * n) 0) a f))

  pub hash_agrees : (a b : ℕ) → a ≡ h % HALF → get_or w (HASHES + 2 * n) 0 ≡ a → b ≡ h / HALF → eqb (get_or w (HASHES + 2 * n + 1) 0) b ≡ hash_is w n h
  unfolding hash_is
  hash_agrees a b e f g = sym (rw (← e, ← g, eq-eqb (get_or w (HASHES + 2 * n) 0) a f))

  pub hash_words_lem : (w' : List ℕ) (a b : ℕ) → w' ≡ set (set w (HASHES + 2 * n) a) (HASHES + 2 * n + 1) b → a ≡ h % HALF → b ≡ h / HALF → w' ≡ hash_words w n h
  unfolding hash_words
  hash_words_lem w' a b d e f = d ∙ rw (e, f)

  pub tree_words_lem : (p : ℕ) → p ≡ free_place w h → set w p (n + 1) ≡ tree_words w n h
  unfolding tree_words
  tree_words_lem p e = rw e

-- an entry, and nothing on its branches
pub entry_words_lem : (s w : List ℕ) (count : ℕ) (x : Signature) (w₁ w₂ : List ℕ) → w₁ ≡ type_words s w (TYPES + 5 * count) x → w₂ ≡ bare_words w₁ count
    → w₂ ≡ bare_words (type_words s w (TYPES + 5 * count) x) count
entry_words_lem s w count x w₁ w₂ d e = e ∙ rw d

-- ## The search

-- what is found from a place on, which is one of `count` types' trees, is the first equal type
pub record Seeking (s w : List ℕ) (count : ℕ) (x : Signature) (place bits : ℕ) : Type 0 where
  pub low : Low w count
  pub from : HEADS ≤ place
  pub below : place < LINKS + 2 * count
  pub left : ℕ
  pub reached : Reached place left
  pub same : type_at (signature_of s x) (type_table count s w TYPES) ≡ in_tree left s w (signature_of s x) place bits

-- the tree of a signature's hash
pub seek_begin : (s w : List ℕ) (count : ℕ) (x : Signature) (h place : ℕ) → Indexed s w count → h ≡ hash_of (signature_of s x) → place ≡ head_of h
    → Seeking s w count x place h
unfolding found_in
seek_begin s w count x h place v d e =
    rw (e, d) (record {
      low = v.low;
      from = omega arith;
      below = omega arith;
      left = HASHES - HEADS;
      reached = record { inside = omega arith; enough = omega arith };
      same = v.each (signature_of s x);
    })

module _ (s w : List ℕ) (count : ℕ) (x : Signature) (place bits : ℕ) (v : Seeking s w count x place bits) where
  pub seek_inside : place < HASHES
  seek_inside = v.reached.inside

  -- no type is left
  pub seek_none : (link : ℕ) → link ≡ link_at w place → link ≡ 0 → type_at (signature_of s x) (type_table count s w TYPES) ≡ number_of None
  seek_none link at e = v.same ∙ tree_none v.left s w (signature_of s x) place bits (sym at ∙ e)

module _ (s w : List ℕ) (count : ℕ) (x : Signature) (place bits : ℕ) (v : Seeking s w count x place bits) (link : ℕ) (at : link ≡ link_at w place) (some_left : link ≡ 0 → ⊥) where
  pub seek_few : link - 1 < 256
  seek_few = omega (arith, (leads w place).few)

  -- its number is that of a type
  pub seek_count : link - 1 < count
  seek_count = omega (arith, v.low place v.from v.below, (leads w place).most)

  pub seek_entry : (n : ℕ) → USES ≤ n → TYPES + 5 * (link - 1) + 4 < n
  seek_entry n l = omega (arith, seek_few)

  turn : type_at (signature_of s x) (type_table count s w TYPES)
      ≡ (if is_type s w (signature_of s x) (link - 1) then some (link - 1) else in_tree (v.left - 1) s w (signature_of s x) (branch_of (link - 1) bits) (bits / 2))
  turn =
      v.same ∙ ap (λ k. in_tree k s w (signature_of s x) place bits) (reached-left w place v.left v.reached link at some_left)
      ∙ tree_turn (v.left - 1) s w (signature_of s x) place bits (link - 1) (reached_link w place v.left v.reached link at some_left)

  module _ (next : ℕ) (after : next ≡ branch_of (link - 1) bits) where
    -- the way goes on
    pub seek_less : HASHES - next < HASHES - place
    seek_less = (reached_again w place v.left v.reached link at some_left next bits after).1

    other : is_type s w (signature_of s x) (link - 1) ≡ false → Seeking s w count x next (bits / 2)
    other e = record {
      low = v.low;
      from = omega arith;
      below = omega (arith, seek_count);
      left = v.left - 1;
      reached = (reached_again w place v.left v.reached link at some_left next bits after).0;
      same = turn ∙ rw (e, after);
    }

    module _ (h : ℕ) (is : h ≡ hash_of (signature_of s x)) (b : Bool) (told : b ≡ hash_is w (link - 1) h) where
      -- a type with another hash
      pub seek_hash : not b ≡ true → Seeking s w count x next (bits / 2)
      unfolding is_type
      seek_hash e = other (rw (← is, ← told) (go b e))
        where
          go : (c : Bool) → not c ≡ true → (c && same_type (signature_of s x) (signature_of s (entry_in w (TYPES + 5 * (link - 1))))) ≡ false
          go true f = absurd (false≢true f)
          go false f = refl

      module _ (y : Signature) (d : y ≡ entry_in w (TYPES + 5 * (link - 1))) where
        unlike : false ≡ same_type (signature_of s x) (signature_of s y) → Seeking s w count x next (bits / 2)
        unfolding is_type
        unlike f = let g : same_type (signature_of s x) (signature_of s (entry_in w (TYPES + 5 * (link - 1)))) ≡ false = sym (f ∙ rw d) in
            other (rw g (go (hash_is w (link - 1) (hash_of (signature_of s x)))))
          where
            go : (c : Bool) → (c && false) ≡ false
            go true = refl
            go false = refl

        module _ (p q : Code.List) (m : InStep s x.named x.params y.named y.params p q) (r : NextBoth) (e : Both s x.named p y.named q r) where
          -- a parameter that differs
          pub seek_params : r ≡ B.Differ → Seeking s w count x next (bits / 2)
          seek_params f = unlike (same_not s x y false (in_step_differ s x.named x.params y.named y.params p q m r e f) refl)

          module _ (ended : r ≡ B.End) (g : Bool) (results : g ≡ same_bytes (types_of false s x.results) (types_of false s y.results)) where
            decided : g ≡ same_type (signature_of s x) (signature_of s y)
            decided = same-results s x y true (in_step_end s x.named x.params y.named y.params p q m r e ended) g refl results

            -- a result that differs
            pub seek_results : g ≡ false → Seeking s w count x next (bits / 2)
            seek_results f = unlike (sym f ∙ decided)

            -- an equal type
            pub seek_found : not b ≡ false → g ≡ true → type_at (signature_of s x) (type_table count s w TYPES) ≡ number_of (Some (link - 1))
            unfolding is_type
            seek_found k f =
                let h : same_type (signature_of s x) (signature_of s (entry_in w (TYPES + 5 * (link - 1)))) ≡ true = sym (sym f ∙ decided ∙ rw d) in
                turn ∙ rw (← is, ← told, h) (go b k)
              where
                go : (c : Bool) → not c ≡ false → (if c && true then some (link - 1) else in_tree (v.left - 1) s w (signature_of s x) (branch_of (link - 1) bits) (bits / 2)) ≡ some (link - 1)
                go true z = refl
                go false z = absurd (false≢true (sym z))

-- ## The free place

-- the first free place from a place on is that of the hash
pub record Freeing (w : List ℕ) (h place bits : ℕ) : Type 0 where
  pub left : ℕ
  pub reached : Reached place left
  pub same : free_place w h ≡ free_from left w place bits

pub free-begin : (w : List ℕ) (h place : ℕ) → place ≡ head_of h → Freeing w h place h
unfolding free_place
free-begin w h place e = rw e (record { left = HASHES - HEADS; reached = record { inside = omega arith; enough = omega arith }; same = refl })

module _ (w : List ℕ) (h place bits : ℕ) (v : Freeing w h place bits) where
  pub free-inside : place < HASHES
  free-inside = v.reached.inside

  module _ (link : ℕ) (at : link ≡ link_at w place) where
    pub free-done : link ≡ 0 → place ≡ free_place w h
    free-done e = sym (v.same ∙ free-here v.left w place bits (sym at ∙ e))

    module _ (some_left : link ≡ 0 → ⊥) (next : ℕ) (after : next ≡ branch_of (link - 1) bits) where
      pub free_less : HASHES - next < HASHES - place
      free_less = (reached_again w place v.left v.reached link at some_left next bits after).1

      pub free_again : Freeing w h next (bits / 2)
      free_again = record {
        left = v.left - 1;
        reached = (reached_again w place v.left v.reached link at some_left next bits after).0;
        same =
            v.same ∙ ap (λ k. free_from k w place bits) (reached-left w place v.left v.reached link at some_left)
            ∙ free-turn (v.left - 1) w place bits (link - 1) (reached_link w place v.left v.reached link at some_left) ∙ rw after;
      }

-- ## Kept

-- words after the index and the size beside it do not matter to them
pub index_kept : (n : ℕ) (s : Bytes) {w w' : List ℕ} (count : ℕ) → USES ≤ n → Kept n w w' → Indexed s w count → Indexed s w' count
index_kept n s {w} {w'} count h k v =
    let f = v.few in
    let t = table_kept count s {w = w} {w' = w'} TYPES n (omega arith) k in
    let c = trees_below n s w w' count (type_table count s w TYPES) (omega arith) k (trees_of v) in
    record {
      few = f;
      low = c.low;
      each = λ x. rw t (c.each x);
      size = rw (kept_word k SIZE (omega arith), t) v.size;
      readable = λ m l. rw (entry_kept {w = w} {w' = w'} (TYPES + 5 * m) n (omega arith) k) (v.readable m l);
    }

-- no type yet
pub index-none : (s w w' : List ℕ) → Emptied w w' → Indexed s w' 0
unfolding found_in type_table type_at first_at types_size
index-none s w w' v = record {
  few = omega arith;
  low = λ i h l. omega (arith, head i h l);
  each = λ x. sym (tree_none (HASHES - HEADS) s w' x (head_of (hash_of x)) (hash_of x) (link_none w' (head_of (hash_of x)) (head (head_of (hash_of x)) (omega arith) (omega arith))));
  size = v.size;
  readable = λ n l. absurd (omega arith);
}
  where
    head : (i : ℕ) → HEADS ≤ i → i < LINKS → get_or w' i 0 ≡ 0
    head i h l = let e : HEADS + (i - HEADS) ≡ i = omega arith in rw e at (v.heads.none (i - HEADS) (omega arith))

-- ## One more type

-- two words are written
module _ (w : List ℕ) (at a b : ℕ) where
  abbrev pair : List ℕ
  pair = set (set w at a) (at + 1) b

  pair_inside : (low high : ℕ) → low ≤ at → at + 1 < high → Inside low high w pair
  pair_inside low high g h = inside_then (inside-set low high at a w g (omega arith)) (inside-set low high (at + 1) b (set w at a) (omega arith) h)

  pair_other : (i : ℕ) → (i ≡ at → ⊥) → (i ≡ at + 1 → ⊥) → get_or pair i 0 ≡ get_or w i 0
  pair_other i f g = get_or-set_other (set w at a) (at + 1) i b 0 g ∙ get_or-set_other w at i a 0 f

  pair_first : at < length w → get_or pair at 0 ≡ a
  pair_first h = get_or-set_other (set w at a) (at + 1) at b 0 (λ e. omega arith) ∙ get_or-set_same w at a 0 h

  pair_second : at + 1 < length w → get_or pair (at + 1) 0 ≡ b
  pair_second h = let l : length (set w at a) ≡ length w = length-set w at a in get_or-set_same (set w at a) (at + 1) b 0 (omega arith)

-- a type was added to the table, and the size stayed
record Entered (s : Bytes) (w : List ℕ) (count : ℕ) (x : Signature) (w' : List ℕ) : Type 0 where
  types : type_table (count + 1) s w' TYPES ≡ type_table count s w TYPES ++ (signature_of s x ∷ [])
  inside : Inside (TYPES + 5 * count) USES w w'
  size : get_or w' SIZE 0 ≡ get_or w SIZE 0
  entry : entry_in w' (TYPES + 5 * count) ≡ entry_in (type_words s w (TYPES + 5 * count) x) (TYPES + 5 * count)

-- and to the index
record Listed (s : Bytes) (w : List ℕ) (count : ℕ) (x : Signature) (w' : List ℕ) : Type 0 where
  entered : Entered s w count x w'
  trees : Trees s w' (count + 1) (type_table count s w TYPES ++ (signature_of s x ∷ []))

module _ (s w : List ℕ) (count : ℕ) (x : Signature) (few : count < 256) (long : USES ≤ length w) where
  abbrev new : FuncType
  new = signature_of s x

  abbrev old : List FuncType
  old = type_table count s w TYPES

  abbrev entry : List ℕ
  entry = type_words s w (TYPES + 5 * count) x

  abbrev written : List ℕ
  written = bare_words entry count

  entry-inside : Inside (TYPES + 5 * count) HEADS w entry
  entry-inside = type-inside s w (TYPES + 5 * count) x (TYPES + 5 * count) HEADS (omega arith) (omega arith)

  entry-long : length entry ≡ length w
  entry-long = entry-inside.kept.long

  -- words of the index may change
  entered_again : {a b : List ℕ} → Inside HEADS SIZE a b → Inside (TYPES + 5 * count) USES a b → Entered s w count x a → Entered s w count x b
  entered_again {a} {b} i j v = record {
    types = table_kept (count + 1) s {w = a} {w' = b} TYPES HEADS (omega arith) i.kept ∙ v.types;
    inside = inside_then v.inside j;
    size = inside-above i SIZE (omega arith) ∙ v.size;
    entry = entry_kept (TYPES + 5 * count) HEADS (omega arith) i.kept ∙ v.entry;
  }

  written_entered : Entered s w count x written
  unfolding bare_words
  written_entered =
      entered_again (pair_inside entry (LINKS + 2 * count) 0 0 HEADS SIZE (omega arith) (omega arith)) (pair_inside entry (LINKS + 2 * count) 0 0 (TYPES + 5 * count) USES (omega arith) (omega arith))
      (record {
        types = table_more s w count x (omega arith);
        inside = type-inside s w (TYPES + 5 * count) x (TYPES + 5 * count) USES (omega arith) (omega arith);
        size = inside-above entry-inside SIZE (omega arith);
        entry = refl;
      })

  written-other : (i : ℕ) → HEADS ≤ i → (i ≡ LINKS + 2 * count → ⊥) → (i ≡ LINKS + 2 * count + 1 → ⊥) → get_or written i 0 ≡ get_or w i 0
  unfolding bare_words
  written-other i h f g = pair_other entry (LINKS + 2 * count) 0 0 i f g ∙ inside-above entry-inside i h

  written_bare : Bare written count
  unfolding bare_words
  written_bare i h l = go (dec_lt (LINKS + 2 * count) i)
    where
      go : Dec (LINKS + 2 * count < i) → get_or (set (set entry (LINKS + 2 * count) 0) (LINKS + 2 * count + 1) 0) i 0 ≡ 0
      go (yes a) = let e : i ≡ LINKS + 2 * count + 1 = omega arith in rw e (pair_second entry (LINKS + 2 * count) 0 0 (omega (arith, entry-long)))
      go (no a) = let e : i ≡ LINKS + 2 * count = omega arith in rw e (pair_first entry (LINKS + 2 * count) 0 0 (omega (arith, entry-long)))

  written_unmoved : Unmoved count w written
  written_unmoved = record {
    kept = written_entered.inside.kept;
    links = λ i h l. written-other i h (λ e. omega arith) (λ e. omega arith);
    hashes = λ i h l. written-other i (omega arith) (λ e. omega arith) (λ e. omega arith);
  }

  -- an equal type is there: trees stay as they are
  again_listed : Trees s w count old → (w' : List ℕ) → w' ≡ written → (n : ℕ) → type_at new old ≡ some n → Listed s w count x w'
  again_listed v w' is n found = rw is (record { entered = written_entered; trees = trees })
    where
      each : (y : FuncType) (b : Bool) → same_type y new ≡ b → type_at y (old ++ (new ∷ [])) ≡ type_at y old
      each y true e = let d = same-one y new e in rw d (type_again new old n found ∙ sym found)
      each y false e = type_miss y new old e

      trees : Trees s written (count + 1) (old ++ (new ∷ []))
      trees = let c = trees_kept s w written count old written_unmoved v in
          record { few = omega arith; low = low-more written count c.low written_bare; each = λ y. each y (same_type y new) refl ∙ c.each y }

  -- no equal type is there: it is put into the tree of its hash
  module _ (v : Trees s w count old) (missing : type_at new old ≡ none) where
    abbrev hash : ℕ
    hash = hash_of new

    abbrev spread : List ℕ
    spread = hash_words written count hash

    spread_entered : Entered s w count x spread
    unfolding hash_words
    spread_entered =
        entered_again (pair_inside written (HASHES + 2 * count) (hash % HALF) (hash / HALF) HEADS SIZE (omega arith) (omega arith))
        (pair_inside written (HASHES + 2 * count) (hash % HALF) (hash / HALF) (TYPES + 5 * count) USES (omega arith) (omega arith)) written_entered

    spread_other : (i : ℕ) → (i ≡ HASHES + 2 * count → ⊥) → (i ≡ HASHES + 2 * count + 1 → ⊥) → get_or spread i 0 ≡ get_or written i 0
    unfolding hash_words
    spread_other i f g = pair_other written (HASHES + 2 * count) (hash % HALF) (hash / HALF) i f g

    spread_unmoved : Unmoved count w spread
    spread_unmoved = record {
      kept = spread_entered.inside.kept;
      links = λ i h l. spread_other i (λ e. omega arith) (λ e. omega arith) ∙ written_unmoved.links i h l;
      hashes = λ i h l. spread_other i (λ e. omega arith) (λ e. omega arith) ∙ written_unmoved.hashes i h l;
    }

    spread_bare : Bare spread count
    spread_bare i h l = spread_other i (λ e. omega arith) (λ e. omega arith) ∙ written_bare i h l

    entry_new : signature_of s (entry_in spread (TYPES + 5 * count)) ≡ new
    unfolding hash_words bare_words
    entry_new =
        ap (signature_of s) (entry_kept (TYPES + 5 * count) HEADS (omega arith)
        (kept_then (pair_inside entry (LINKS + 2 * count) 0 0 HEADS SIZE (omega arith) (omega arith)).kept (pair_inside written (HASHES + 2 * count) (hash % HALF) (hash / HALF) HEADS SIZE (omega arith) (omega arith)).kept))
        ∙ type-written s w (TYPES + 5 * count) x (omega arith)

    hash_new : hash_is spread count hash ≡ true
    unfolding hash_is hash_words
    hash_new =
        let l = written_entered.inside.kept.long in
        rw (
          pair_first written (HASHES + 2 * count) (hash % HALF) (hash / HALF) (omega arith),
          pair_second written (HASHES + 2 * count) (hash % HALF) (hash / HALF) (omega arith),
          eq-eqb (hash % HALF) (hash % HALF) refl,
          eq-eqb (hash / HALF) (hash / HALF) refl,
        )

    known_new : (y : FuncType) → is_type s spread y count ≡ same_type y new
    unfolding is_type
    known_new y = rw entry_new (go (same_type y new) refl)
      where
        none_of : (b : Bool) → (b && false) ≡ false
        none_of true = refl
        none_of false = refl

        go : (b : Bool) → same_type y new ≡ b → (hash_is spread count (hash_of y) && b) ≡ b
        go true e = let d = same-one y new e in rw (d, hash_new)
        go false e = none_of (hash_is spread count (hash_of y))

    new_listed : (h : ℕ) → h ≡ hash → (w₁ w₂ w₃ : List ℕ) → w₁ ≡ written → w₂ ≡ hash_words w₁ count h → w₃ ≡ tree_words w₂ count h → Listed s w count x w₃
    new_listed h is w₁ w₂ w₃ first second third =
        let l = spread_entered.inside.kept.long in
        let c = trees_kept s w spread count old spread_unmoved v in
        let m = table-length count s w TYPES in
        rw (third, second, first, is) (record {
          entered =
              entered_again (planted_inside s spread count new old few (omega arith) c spread_bare known_new missing m HEADS SIZE (omega arith) (omega arith))
              (planted_inside s spread count new old few (omega arith) c spread_bare known_new missing m (TYPES + 5 * count) USES (omega arith) (omega arith)) spread_entered;
          trees = planted_trees s spread count new old few (omega arith) c spread_bare known_new missing m;
        })

-- ## With its size

module _ (s w : List ℕ) (count : ℕ) (x : Signature) (h : Hashed) (short : length s ≤ BYTES) (few : count < 256) (long : USES ≤ length w)
    (v : Indexed s w count) (walked : h ≡ hashed (signature_of s x)) (w₀ : List ℕ) (sized : w₀ ≡ size_words w count h) where
  size-kept : Kept SIZE w w₀
  unfolding size_words
  size-kept = rw sized (kept_set SIZE SIZE (get_or w SIZE 0 + more count + signature_size h) w (omega arith))

  size-inside : Inside (TYPES + 5 * count) USES w w₀
  unfolding size_words
  size-inside = rw sized (inside-set (TYPES + 5 * count) USES SIZE (get_or w SIZE 0 + more count + signature_size h) w (omega arith) (omega arith))

  size-long : USES ≤ length w₀
  size-long = rw size-kept.long long

  same-table : type_table count s w₀ TYPES ≡ type_table count s w TYPES
  same-table = table_kept count s {w = w} {w' = w₀} TYPES SIZE (omega arith) size-kept

  same_trees : Trees s w₀ count (type_table count s w₀ TYPES)
  same_trees = rw same-table (trees_below SIZE s w w₀ count (type_table count s w TYPES) (omega arith) size-kept (trees_of v))

  -- the size is that of the types with the new one
  size-told : get_or w₀ SIZE 0 ≡ types_size (type_table count s w TYPES ++ (signature_of s x ∷ []))
  unfolding size_words
  size-told = rw sized (get_or-set_same w SIZE (get_or w SIZE 0 + more count + signature_size h) 0 (omega arith)) ∙ added-size s w count x h walked short v few

  -- the new type can be read, and so can those before it
  more-readable : ReadableSignature s x → (w' : List ℕ) → Entered s w₀ count x w' → (n : ℕ) → n < count + 1 → ReadableSignature s (entry_in w' (TYPES + 5 * n))
  more-readable k w' l n h = go (dec_le count n)
    where
      go : Dec (count ≤ n) → ReadableSignature s (entry_in w' (TYPES + 5 * n))
      go (yes g) = let e : n ≡ count = omega arith in rw (e, l.entry) (entry-readable s w₀ (TYPES + 5 * count) x (omega (arith, size-long)) k)
      go (no g) = rw (entry_kept {w = w} {w' = w'} (TYPES + 5 * n) (TYPES + 5 * count) (omega arith) (inside_then size-inside l.inside).kept) (v.readable n (omega arith))

  adds : ReadableSignature s x → (w' : List ℕ) → Listed s w₀ count x w' → Adds s w count x w'
  adds k w' l =
      let c = l.trees in
      let e : type_table (count + 1) s w' TYPES ≡ type_table count s w₀ TYPES ++ (signature_of s x ∷ []) = l.entered.types in
      let d : type_table (count + 1) s w' TYPES ≡ type_table count s w TYPES ++ (signature_of s x ∷ []) = e ∙ rw same-table refl in
      record {
        types = d;
        indexed = record { few = c.few; low = c.low; each = λ y. rw e (c.each y); size = l.entered.size ∙ size-told ∙ ap types_size (sym d); readable = more-readable k w' l.entered };
        inside = inside_then size-inside l.entered.inside;
      }

-- a type that is equal to none
pub add_new : (s w : List ℕ) (count : ℕ) (x : Signature) (h : Hashed) → length s ≤ BYTES → count < 256 → USES ≤ length w → Fresh s w count x h
    → (w₀ w₁ w₂ w₃ : List ℕ) → w₀ ≡ size_words w count h → w₁ ≡ bare_words (type_words s w₀ (TYPES + 5 * count) x) count → w₂ ≡ hash_words w₁ count h.hash → w₃ ≡ tree_words w₂ count h.hash
    → Adds s w count x w₃
add_new s w count x h short few long f w₀ w₁ w₂ w₃ a b c d =
    let v = f.indexed in
    let k = f.walked in
    adds s w count x h short few long v k w₀ a f.readable w₃
    (new_listed s w₀ count x few (size-long s w count x h short few long v k w₀ a) (same_trees s w count x h short few long v k w₀ a)
    (rw (same-table s w count x h short few long v k w₀ a) f.missing) h.hash (ap (λ (z : Hashed). z.hash) k) w₁ w₂ w₃ b c d)

-- one that is equal to another
pub add_again_lem : (s w : List ℕ) (count : ℕ) (x : Signature) (h : Hashed) → length s ≤ BYTES → count < 256 → USES ≤ length w → Again s w count x h
    → (w₀ w₁ : List ℕ) → w₀ ≡ size_words w count h → w₁ ≡ bare_words (type_words s w₀ (TYPES + 5 * count) x) count → Adds s w count x w₁
add_again_lem s w count x h short few long f w₀ w₁ a b =
    let v = f.indexed in
    let k = f.walked in
    adds s w count x h short few long v k w₀ a f.readable w₁
    (again_listed s w₀ count x few (size-long s w count x h short few long v k w₀ a) (same_trees s w count x h short few long v k w₀ a) w₁ b f.number
    (rw (same-table s w count x h short few long v k w₀ a) f.found))

-- the size fits its word
pub fresh_fits : (s w : List ℕ) (count : ℕ) (x : Signature) (h : Hashed) → Fresh s w count x h → length s ≤ BYTES → count < 256 → Fits w32 (get_or w SIZE 0 + more count + signature_size h)
fresh_fits s w count x h f short few = size_fits s w count x h f.walked short f.indexed few

pub again_fits : (s w : List ℕ) (count : ℕ) (x : Signature) (h : Hashed) → Again s w count x h → length s ≤ BYTES → count < 256 → Fits w32 (get_or w SIZE 0 + more count + signature_size h)
again_fits s w count x h f short few = size_fits s w count x h f.walked short f.indexed few

-- ## Emptied

-- the first `i` buckets have no type
pub record Emptying (w₀ w : List ℕ) (i : ℕ) : Type 0 where
  pub low : i ≤ BUCKETS
  pub none : (b : ℕ) → b < i → get_or w (HEADS + b) 0 ≡ 0
  pub inside : Inside HEADS USES w₀ w

pub empty-begin : (w : List ℕ) → Emptying w w 0
empty-begin w = record { low = omega arith; none = λ b l. absurd (omega arith); inside = inside-same HEADS USES w }

module _ (w₀ w : List ℕ) (i : ℕ) (v : Emptying w₀ w i) where
  pub empty_again : i < BUCKETS → USES ≤ length w₀ → Emptying w₀ (set w (HEADS + i) 0) (i + 1)
  empty_again h l = record {
    low = omega arith;
    none = λ b g. go b g (eqb b i) refl;
    inside = inside_then v.inside (inside-set HEADS USES (HEADS + i) 0 w (omega arith) (omega arith));
  }
    where
      go : (b : ℕ) → b < i + 1 → (t : Bool) → eqb b i ≡ t → get_or (set w (HEADS + i) 0) (HEADS + b) 0 ≡ 0
      go b g true f = let d = eqb-true b i f in let k = v.inside.kept.long in rw d (get_or-set_same w (HEADS + i) 0 0 (omega arith))
      go b g false f = let d = eqb-false b i f in get_or-set_other w (HEADS + i) (HEADS + b) 0 0 (λ e. d (omega arith)) ∙ v.none b (let z : (b ≡ i → ⊥) = d in lt b i g z)
        where
          lt : (b i : ℕ) → b < i + 1 → (b ≡ i → ⊥) → b < i
          lt b i g z = omega arith

  pub empty-done : BUCKETS ≤ i → HeadsEmptied w₀ w
  empty-done h = record { none = λ b l. v.none b (omega arith); inside = v.inside }

-- with the size of no section
pub all-empty : (w w₁ : List ℕ) → HeadsEmptied w w₁ → USES ≤ length w → Emptied w (set w₁ SIZE 0)
all-empty w w₁ v l =
    let k = v.inside.kept.long in
    record {
      heads = record {
        none = λ b h. get_or-set_other w₁ SIZE (HEADS + b) 0 0 (λ e. omega arith) ∙ v.none b h;
        inside = inside_then v.inside (inside-set HEADS USES SIZE 0 w₁ (omega arith) (omega arith));
      };
      size = get_or-set_same w₁ SIZE 0 0 (omega arith);
    }
