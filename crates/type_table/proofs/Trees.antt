-- Plain mathematics of the trees of the index over types: a way through one, and one more type in it.
use Rattle.std.specs.Prelude.{if◌then◌else◌}
use Prim.Native.Nat.{ℕ, zero, suc, ◌+◌, ◌-◌, ◌*◌, ◌/◌, ◌≤◌, ◌<◌}
use mathlib.Core.Path.{◌≡◌, refl, sym, ◌∙◌, ap}
use mathlib.Core.Bool.{Bool, true, false}
use mathlib.Core.List.{List, [], ◌∷◌, ◌++◌}
use mathlib.Core.Option.{none, some}
use lib.ListN.{length, get_or}
use lib.Seq.{get_or-set_same, get_or-set_other}
use lib.Dec.{eqb, ltb}
use borrow.Author.Tests.{lt-ltb, le-ltb, ltb-true, ltb-false, eqb-true, eqb-false}
use native.Mathlib.Decide.{dec_lt}
use native.Mathlib.Omega.{arith}
use Rattle.definition.specs.Basic.{same_bytes, first_at, later}
use Rattle.definition.specs.Syntax.{Bytes, FuncType}
use Rattle.definition.specs.Types.{same_type, type_at}
use Rattle.laws.proofs.Equal.{same-eq, and_true}
use Rattle.laws.proofs.Exits.{if_either}
use Rattle.laws.proofs.Interning.{first-kept, same-type_itself}
use mir.Syntax.{w64}
use mir.Val.{Fits}
use Rattle.area.specs.Layout.{HASHES, HEADS, LINKS, SIZE, TYPES, USES}
use Rattle.area.specs.Kept.{Kept}
use Rattle.area.proofs.Kept.{kept_less, kept_word}
use Rattle.type_table.specs.Hash.{hash_of}
use Rattle.type_table.specs.Table.{type_table, head_of, branch_of, link_at, on_link, hash_is, is_type, in_tree, found_in, free_from, free_place, Indexed, tree_words, Inside}
use Rattle.type_table.proofs.Entries.{inside-set, inside-above, entry_kept}
use Rattle.type_table.proofs.Types.{new_number}

-- ## A link

-- a link is to one of 256 types, it is no more than its word, and the branches of its type stand after it
pub record Leads (w : List ℕ) (place link : ℕ) : Type 0 where
  pub few : link ≤ 256
  pub most : link ≤ get_or w place 0
  pub later : 0 < link → place + 2 < LINKS + 2 * link

pub leads : (w : List ℕ) (place : ℕ) → Leads w place (link_at w place)
unfolding link_at
leads w place =
    if_either (Leads w place) (ltb 256 (get_or w place 0)) (λ _. nowhere)
    (λ a. let b = ltb-false 256 (get_or w place 0) a in
    if_either (Leads w place) (ltb (place + 2) (LINKS + 2 * get_or w place 0))
    (λ c. let d = ltb-true (place + 2) (LINKS + 2 * get_or w place 0) c in record { few = omega arith; most = omega arith; later = λ _. omega arith })
    (λ _. nowhere))
  where
    nowhere : Leads w place 0
    nowhere = record { few = omega arith; most = omega arith; later = λ z. absurd (omega arith) }

pub link_none : (w : List ℕ) (place : ℕ) → get_or w place 0 ≡ 0 → link_at w place ≡ 0
link_none w place e = omega (arith, (leads w place).most)

link_is : (w : List ℕ) (place link : ℕ) → get_or w place 0 ≡ link → link ≤ 256 → place + 2 < LINKS + 2 * link → link_at w place ≡ link
unfolding link_at
link_is w place link e h l = rw (e, le-ltb 256 link h, lt-ltb (place + 2) (LINKS + 2 * link) l)

link_same : (w w' : List ℕ) (place : ℕ) → get_or w' place 0 ≡ get_or w place 0 → link_at w' place ≡ link_at w place
unfolding link_at
link_same w w' place e = rw e

-- ## A way through a tree

-- at a place without a type
pub tree_none : (k : ℕ) (s w : List ℕ) (x : FuncType) (place bits : ℕ) → link_at w place ≡ 0 → in_tree k s w x place bits ≡ none
unfolding in_tree
tree_none zero s w x place bits e = refl
tree_none (suc k) s w x place bits e = rw e

-- at one with a type
pub tree_turn : (k : ℕ) (s w : List ℕ) (x : FuncType) (place bits n : ℕ) → link_at w place ≡ suc n
    → in_tree (suc k) s w x place bits ≡ (if is_type s w x n then some n else in_tree k s w x (branch_of n bits) (bits / 2))
unfolding in_tree
tree_turn k s w x place bits n e = rw e

pub free-here : (k : ℕ) (w : List ℕ) (place bits : ℕ) → link_at w place ≡ 0 → free_from k w place bits ≡ place
unfolding free_from
free-here zero w place bits e = refl
free-here (suc k) w place bits e = rw e

pub free-turn : (k : ℕ) (w : List ℕ) (place bits n : ℕ) → link_at w place ≡ suc n → free_from (suc k) w place bits ≡ free_from k w (branch_of n bits) (bits / 2)
unfolding free_from
free-turn k w place bits n e = rw e

free-within : (k : ℕ) (w : List ℕ) (place bits : ℕ) → place < HASHES → free_from k w place bits < HASHES
unfolding free_from
free-within zero w place bits h = h
free-within (suc k) w place bits h = go (λ q b. free-within k w q b) (link_at w place) (leads w place).few
  where
    go : ((q b : ℕ) → q < HASHES → free_from k w q b < HASHES) → (n : ℕ) → n ≤ 256 → on_link n place (λ m. free_from k w (branch_of m bits) (bits / 2)) < HASHES
    go f zero l = h
    go f (suc m) l = f (branch_of m bits) (bits / 2) (omega arith)

-- a free place is a word of the index
pub free_in : (w : List ℕ) (p h n : ℕ) → p ≡ free_place w h → USES ≤ n → p < n
unfolding free_place
free_in w p h n e l = omega (arith, free-within (HASHES - HEADS) w (head_of h) h (omega arith))

pub free-fits : (w : List ℕ) (p h : ℕ) → p ≡ free_place w h → Fits w64 (p * 4)
free-fits w p h e = let l = free_in w p h USES e (omega arith) in record { fits = omega arith }

-- the place to which a hash's way has come, and how many are left
pub record Reached (place left : ℕ) : Type 0 where
  pub inside : place < HASHES
  pub enough : HASHES ≤ place + left

module _ (w : List ℕ) (place left : ℕ) (v : Reached place left) (link : ℕ) (at : link ≡ link_at w place) (some-there : link ≡ 0 → ⊥) where
  pub reached_link : link_at w place ≡ suc (link - 1)
  reached_link = omega arith

  pub reached-left : left ≡ suc (left - 1)
  reached-left = omega (arith, v.inside, v.enough)

  -- it goes on to a later place
  pub reached_again : (next bits : ℕ) → next ≡ branch_of (link - 1) bits → Reached next (left - 1) × (HASHES - next < HASHES - place)
  reached_again next bits e =
      let f = (leads w place).few in
      let l = (leads w place).later (omega arith) in
      let i = v.inside in
      let r = v.enough in
      (record { inside = omega arith; enough = omega arith }, omega arith)

-- ## What the index goes by

-- no link of `count` types is to a later one
abbrev pub Low : List ℕ → ℕ → Type 0
Low w count = (i : ℕ) → HEADS ≤ i → i < LINKS + 2 * count → get_or w i 0 ≤ count

-- nothing is on the branches of the next type
abbrev pub Bare : List ℕ → ℕ → Type 0
Bare w count = (i : ℕ) → LINKS + 2 * count ≤ i → i < LINKS + 2 * (count + 1) → get_or w i 0 ≡ 0

-- the trees of `count` types: what is found there is the first of a list
pub record Trees (s : Bytes) (w : List ℕ) (count : ℕ) (ts : List FuncType) : Type 0 where
  pub few : count ≤ 256
  pub low : Low w count
  pub each : (x : FuncType) → type_at x ts ≡ found_in s w x

pub trees_of : {s w : List ℕ} {count : ℕ} → Indexed s w count → Trees s w count (type_table count s w TYPES)
trees_of v = record { few = v.few; low = v.low; each = v.each }

-- a signature is found as before where the types are the same, and so are all links but one, from which nothing else is found
module _ (s w w' : List ℕ) (count place : ℕ) (y : FuncType)
    (types : (n : ℕ) → n < count → is_type s w' y n ≡ is_type s w y n)
    (low : Low w count)
    (links : (i : ℕ) → HEADS ≤ i → i < LINKS + 2 * count → (i ≡ place → ⊥) → get_or w' i 0 ≡ get_or w i 0)
    (there : place < LINKS + 2 * count → (k bits : ℕ) → in_tree k s w' y place bits ≡ in_tree k s w y place bits) where
  tree_same : (k p bits : ℕ) → HEADS ≤ p → p < LINKS + 2 * count → in_tree k s w' y p bits ≡ in_tree k s w y p bits
  unfolding in_tree
  tree_same zero p bits h l = refl
  tree_same (suc k) p bits h l = go (λ q b. tree_same k q b) (eqb p place) refl
    where
      after : ((q b : ℕ) → HEADS ≤ q → q < LINKS + 2 * count → in_tree k s w' y q b ≡ in_tree k s w y q b) → (n : ℕ) → n ≤ count
          → on_link n none (λ m. if is_type s w' y m then some m else in_tree k s w' y (branch_of m bits) (bits / 2))
          ≡ on_link n none (λ m. if is_type s w y m then some m else in_tree k s w y (branch_of m bits) (bits / 2))
      after f zero g = refl
      after f (suc m) g = rw (types m (omega arith), f (branch_of m bits) (bits / 2) (omega arith) (omega arith))

      go : ((q b : ℕ) → HEADS ≤ q → q < LINKS + 2 * count → in_tree k s w' y q b ≡ in_tree k s w y q b) → (b : Bool) → eqb p place ≡ b
          → in_tree (suc k) s w' y p bits ≡ in_tree (suc k) s w y p bits
      go f true e = let d = eqb-true p place e in rw d (there (omega arith) (suc k) bits)
      go f false e =
          rw (link_same w w' p (links p h l (eqb-false p place e)))
          (after f (link_at w p) (omega (arith, (leads w p).most, low p h l)))

  found-same : found_in s w' y ≡ found_in s w y
  unfolding found_in
  found-same = tree_same (HASHES - HEADS) (head_of (hash_of y)) (hash_of y) (omega arith) (omega arith)

-- the words of `count` types and of their places in trees are as they were
pub record Unmoved (count : ℕ) (w w' : List ℕ) : Type 0 where
  pub kept : Kept (TYPES + 5 * count) w w'
  pub links : (i : ℕ) → HEADS ≤ i → i < LINKS + 2 * count → get_or w' i 0 ≡ get_or w i 0
  pub hashes : (i : ℕ) → HASHES ≤ i → i < HASHES + 2 * count → get_or w' i 0 ≡ get_or w i 0

pub trees_kept : (s w w' : List ℕ) (count : ℕ) (ts : List FuncType) → Unmoved count w w' → Trees s w count ts → Trees s w' count ts
unfolding is_type hash_is
trees_kept s w w' count ts u v = let f = v.few in record {
  few = f;
  low = λ i h l. rw (u.links i h l) (v.low i h l);
  each = λ y. v.each y ∙ sym (found-same s w w' count HASHES y (types y) v.low (λ i h l _. u.links i h l) (λ l. absurd (omega arith)));
}
  where
    types : (y : FuncType) (n : ℕ) → n < count → is_type s w' y n ≡ is_type s w y n
    types y n l =
        rw (
          u.hashes (HASHES + 2 * n) (omega arith) (omega arith),
          u.hashes (HASHES + 2 * n + 1) (omega arith) (omega arith),
          entry_kept {w = w} {w' = w'} (TYPES + 5 * n) (TYPES + 5 * count) (omega arith) u.kept,
        )

-- words after the index do not matter to it
pub trees_below : (n : ℕ) (s w w' : List ℕ) (count : ℕ) (ts : List FuncType) → SIZE ≤ n → Kept n w w' → Trees s w count ts → Trees s w' count ts
trees_below n s w w' count ts h k v = let f = v.few in trees_kept s w w' count ts (record {
  kept = kept_less (TYPES + 5 * count) n (omega arith) k;
  links = λ i g l. kept_word k i (omega arith);
  hashes = λ i g l. kept_word k i (omega arith);
}) v

-- ## One more type

-- equal signatures are one
pub same-one : (t u : FuncType) → same_type t u ≡ true → t ≡ u
unfolding same_type
same-one t u e =
    let h = and_true (same_bytes t.params u.params) (same_bytes t.results u.results) e in
    one (same-eq t.params u.params h.0) (same-eq t.results u.results h.1)
  where
    one : t.params ≡ u.params → t.results ≡ u.results → t ≡ u
    one p q = λ i. record { params = p i; results = q i }

-- what fails a test is not found at the end
first_miss : {A : Type 0} (p : A → Bool) (xs : List A) (y : A) → p y ≡ false → first_at p (xs ++ (y ∷ [])) ≡ first_at p xs
unfolding first_at
first_miss p [] y h = rw h
first_miss p (x ∷ xs) y h = rw (first_miss p xs y h)

pub type_miss : (x t : FuncType) (ts : List FuncType) → same_type x t ≡ false → type_at x (ts ++ (t ∷ [])) ≡ type_at x ts
unfolding type_at
type_miss x t ts e = first_miss (same_type x) ts t e

pub type_again : (t : FuncType) (ts : List FuncType) (n : ℕ) → type_at t ts ≡ some n → type_at t (ts ++ (t ∷ [])) ≡ some n
unfolding type_at
type_again t ts n e = first-kept (same_type t) ts (t ∷ []) n e

-- one more type with nothing on its branches
pub low-more : (w : List ℕ) (count : ℕ) → Low w count → Bare w count → Low w (count + 1)
low-more w count low bare i h l = go (dec_lt i (LINKS + 2 * count))
  where
    go : Dec (i < LINKS + 2 * count) → get_or w i 0 ≤ count + 1
    go (yes a) = omega (arith, low i h a)
    go (no a) = omega (arith, bare i (omega arith) (omega arith))

-- it is put at the free place of its hash: its signature was found nowhere and is found there, and every other is found where it was
module _ (s w : List ℕ) (count : ℕ) (new : FuncType) (ts : List FuncType) (few : count < 256) (long : USES ≤ length w) (v : Trees s w count ts)
    (bare : Bare w count)
    (known : (y : FuncType) → is_type s w y count ≡ same_type y new)
    (missing : type_at new ts ≡ none) (many : length ts ≡ count) where
  -- among the places of the index, with no type
  record Free (place : ℕ) : Type 0 where
    none : link_at w place ≡ 0
    low : HEADS ≤ place
    high : place < LINKS + 2 * count

  -- a way goes on within the index
  on_way : (p n bits : ℕ) → HEADS ≤ p → p < LINKS + 2 * count → link_at w p ≡ suc n → (p < branch_of n bits) × (branch_of n bits < LINKS + 2 * count) × (n < count)
  on_way p n bits h l e =
      let a = (leads w p).most in
      let b = (leads w p).later (omega arith) in
      let c = v.low p h l in
      (omega arith, omega arith, omega arith)

  -- a way ends at a free place
  free_end : (k p bits : ℕ) → HEADS ≤ p → p < LINKS + 2 * count → HASHES ≤ p + k → Free (free_from k w p bits)
  unfolding free_from
  free_end zero p bits h l r = absurd (omega arith)
  free_end (suc k) p bits h l r = go (λ q b. free_end k q b) (link_at w p) refl
    where
      go : ((q b : ℕ) → HEADS ≤ q → q < LINKS + 2 * count → HASHES ≤ q + k → Free (free_from k w q b)) → (n : ℕ) → link_at w p ≡ n
          → Free (on_link n p (λ m. free_from k w (branch_of m bits) (bits / 2)))
      go f zero e = record { none = e; low = h; high = l }
      go f (suc m) e = let o = on_way p m bits h l e in let a = o.0 in let b = o.1 in f (branch_of m bits) (bits / 2) (omega arith) (omega arith) (omega arith)

  abbrev place : ℕ
  place = free_place w (hash_of new)

  abbrev planted : List ℕ
  planted = tree_words w count (hash_of new)

  free : Free place
  unfolding free_place
  free = free_end (HASHES - HEADS) (head_of (hash_of new)) (hash_of new) (omega arith) (omega arith) (omega arith)

  place_other : (i : ℕ) → (i ≡ place → ⊥) → get_or planted i 0 ≡ get_or w i 0
  unfolding tree_words
  place_other i f = get_or-set_other w place i (count + 1) 0 f

  place_new : get_or planted place 0 ≡ count + 1
  unfolding tree_words
  place_new = let h = free.high in get_or-set_same w place (count + 1) 0 (omega arith)

  pub planted_inside : (low high : ℕ) → low ≤ HEADS → HASHES ≤ high → Inside low high w planted
  unfolding tree_words
  planted_inside low high g k = let l = free.low in let h = free.high in inside-set low high place (count + 1) w (omega arith) (omega arith)

  same-types : (y : FuncType) (n : ℕ) → n < 256 → is_type s planted y n ≡ is_type s w y n
  unfolding is_type hash_is
  same-types y n l =
      let i = planted_inside HEADS HASHES (omega arith) (omega arith) in
      rw (
        inside-above i (HASHES + 2 * n) (omega arith),
        inside-above i (HASHES + 2 * n + 1) (omega arith),
        entry_kept {w = w} {w' = planted} (TYPES + 5 * n) HEADS (omega arith) i.kept,
      )

  -- the new type is met at its place, and nothing after it
  at_place : (k bits : ℕ) (y : FuncType) → in_tree (suc k) s planted y place bits ≡ (if same_type y new then some count else none)
  at_place k bits y =
      let h = free.high in
      let e = place_new in
      let d : link_at planted (branch_of count bits) ≡ 0 =
      link_none planted (branch_of count bits) (place_other (branch_of count bits) (λ z. omega arith) ∙ bare (branch_of count bits) (omega arith) (omega arith)) in
      tree_turn k s planted y place bits count (link_is planted place (suc count) (omega arith) (omega arith) (omega arith))
      ∙ rw (same-types y count few, known y, tree_none k s planted y (branch_of count bits) (bits / 2) d)

  nothing-there : (k bits : ℕ) (y : FuncType) → same_type y new ≡ false → in_tree k s planted y place bits ≡ none
  unfolding in_tree
  nothing-there zero bits y e = refl
  nothing-there (suc k) bits y e = at_place k bits y ∙ rw e

  -- another signature is found as before
  found-other : (y : FuncType) → same_type y new ≡ false → found_in s planted y ≡ found_in s w y
  found-other y e =
      found-same s w planted count place y (λ n l. same-types y n (omega arith)) v.low (λ i h l f. place_other i f)
      (λ l k bits. nothing-there k bits y e ∙ sym (tree_none k s w y place bits free.none))

  -- and this one at the end of its way
  way_new : (k p bits : ℕ) → HEADS ≤ p → p < LINKS + 2 * count → HASHES ≤ p + k → free_from k w p bits ≡ place → in_tree k s w new p bits ≡ none → in_tree k s planted new p bits ≡ some count
  unfolding in_tree free_from
  way_new zero p bits h l r d z = absurd (omega arith)
  way_new (suc k) p bits h l r d z = go (λ q b. way_new k q b) (link_at w p) refl d z
    where
      go : ((q b : ℕ) → HEADS ≤ q → q < LINKS + 2 * count → HASHES ≤ q + k → free_from k w q b ≡ place → in_tree k s w new q b ≡ none → in_tree k s planted new q b ≡ some count)
          → (n : ℕ) → link_at w p ≡ n → on_link n p (λ m. free_from k w (branch_of m bits) (bits / 2)) ≡ place
          → on_link n none (λ m. if is_type s w new m then some m else in_tree k s w new (branch_of m bits) (bits / 2)) ≡ none
          → in_tree (suc k) s planted new p bits ≡ some count
      go f zero e d z = ap (λ q. in_tree (suc k) s planted new q bits) d ∙ at_place k bits new ∙ rw (same-type_itself new)
      go f (suc m) e d z =
          let o = on_way p m bits h l e in
          let a = o.0 in
          let b = o.1 in
          let c = o.2 in
          tree_turn k s planted new p bits m (link_same w planted p (place_other p (λ i. let j : link_at w p ≡ 0 = ap (link_at w) i ∙ free.none in omega arith)) ∙ e)
          ∙ rw (same-types new m (omega arith)) (again (is_type s w new m) z (f (branch_of m bits) (bits / 2) (omega arith) (omega arith) (omega arith) d))
        where
          again : (b : Bool) → (if b then some m else in_tree k s w new (branch_of m bits) (bits / 2)) ≡ none
              → (in_tree k s w new (branch_of m bits) (bits / 2) ≡ none → in_tree k s planted new (branch_of m bits) (bits / 2) ≡ some count)
              → (if b then some m else in_tree k s planted new (branch_of m bits) (bits / 2)) ≡ some count
          again true z g = let i : ◌≡◌ {A = ℕ} 0 1 = cc in absurd (omega arith)
          again false z g = g z

  found_new : found_in s planted new ≡ some count
  unfolding found_in free_place
  found_new = way_new (HASHES - HEADS) (head_of (hash_of new)) (hash_of new) (omega arith) (omega arith) (omega arith) refl (sym (v.each new) ∙ missing)

  pub planted_trees : Trees s planted (count + 1) (ts ++ (new ∷ []))
  planted_trees = record { few = omega arith; low = λ i h l. low i h l (eqb i place) refl; each = λ y. each y (same_type y new) refl }
    where
      low : (i : ℕ) → HEADS ≤ i → i < LINKS + 2 * (count + 1) → (b : Bool) → eqb i place ≡ b → get_or planted i 0 ≤ count + 1
      low i h l true e = let d = eqb-true i place e in rw (d, place_new) (omega arith)
      low i h l false e = rw (place_other i (eqb-false i place e)) (low-more w count v.low bare i h l)

      each : (y : FuncType) (b : Bool) → same_type y new ≡ b → type_at y (ts ++ (new ∷ [])) ≡ found_in s planted y
      each y true e = let d = same-one y new e in rw d (new_number ts new missing ∙ ap some many ∙ sym found_new)
      each y false e = type_miss y new ts e ∙ v.each y ∙ sym (found-other y e)
