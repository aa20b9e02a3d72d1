-- Plain mathematics of the loops over the work area.
use Rattle.std.specs.Prelude.{if◌then◌else◌, Option as Optional, Some, None}
use Prim.Native.Nat.{ℕ, zero, suc, ◌+◌, ◌-◌, ◌*◌, ◌/◌, ◌%◌, ◌≤◌, ◌<◌, min}
use mathlib.Core.Path.{◌≡◌, refl, sym, ◌∙◌, ap}
use mathlib.Core.Bool.{Bool, true, false, ◌&&◌, not, false≢true}
use mathlib.Core.List.{List, [], ◌∷◌}
use mathlib.Core.Option.{Option, none, some}
use lib.ListN.{length, get_or, set, take, drop, length-set, drop_of_length-le}
use lib.Seq.{drop-cons, drop-length, get_or-set_same, get_or-set_other}
use lib.Dec.{eqb}
use borrow.Author.Tests.{eqb-true, eqb-false, eq-eqb, ne_eqb, lt-ltb, le-ltb}
use mir.Syntax.{w32}
use mir.Val.{Fits}
use native.Mathlib.Omega.{arith}
use native.Mathlib.Decide.{dec_le}
use native.Mathlib.Numerals.{add-one}
use Rattle.definition.specs.Basic.{Answer, same, same_bytes, first_at, later, is_some, ok, refused}
use Rattle.laws.proofs.Equal.{same-eq}
use Rattle.definition.specs.Syntax.{Identifier}
use Rattle.definition.specs.Names.{carries, find, below, number_in, taken, Namespace}
use Rattle.syntax.specs.Refusals.{refusal, refused_by}
use Rattle.syntax.specs.Tokens.{part, part_of, id_of, index_of}
use Rattle.syntax.specs.declared.Fault.TheVariants as F
use Rattle.syntax.specs.declared.Part.{Part}
use Rattle.syntax.specs.declared.Refusal.{Refusal}
use Rattle.syntax.specs.declared.Index.{Index}
use Rattle.syntax.specs.declared.Index.TheVariants as X
use Rattle.name_table.specs.Area.{tag_of, entry_part, entry, entry_words, names, labels, found}

-- ## Equal bytes

-- lists of different lengths differ
pub differ : (xs ys : List ℕ) → (length xs ≡ length ys → ⊥) → false ≡ same_bytes xs ys
unfolding same_bytes same
differ [] [] h = absurd (h refl)
differ [] (y ∷ ys) h = refl
differ (x ∷ xs) [] h = refl
differ (x ∷ xs) (y ∷ ys) h = go (eqb x y) (differ xs ys (λ e. h (ap suc e)))
  where
    go : (t : Bool) → false ≡ same_bytes xs ys → false ≡ (t && same_bytes xs ys)
    go true e = e
    go false e = refl

not-true : (b : Bool) → (b ≡ true → ⊥) → false ≡ b
not-true true h = absurd (h refl)
not-true false h = refl

-- what is left from `i` on decides
pub record Same (a b : List ℕ) (i : ℕ) : Type 0 where
  pub agree : same_bytes (drop i a) (drop i b) ≡ same_bytes a b

-- at the start that is all
pub same-begin : (a b : List ℕ) → Same a b 0
same-begin a b = record { agree = refl }

-- one byte, and the rest
step : (a b : List ℕ) (i : ℕ) → i < length a → i < length b →
    same_bytes (drop i a) (drop i b) ≡ (eqb (get_or a i 0) (get_or b i 0) && same_bytes (drop (suc i) a) (drop (suc i) b))
unfolding same_bytes same
step a b i p q = rw (drop-cons a i 0 p, drop-cons b i 0 q)

module _ {a b : List ℕ} {i : ℕ} (v : Same a b i) (e : length a ≡ length b) where
  -- a byte that differs
  pub same_differ : i < length a → (get_or a i 0 ≡ get_or b i 0 → ⊥) → false ≡ same_bytes a b
  same_differ h d = sym (sym v.agree ∙ step a b i h (omega arith) ∙ rw (ne_eqb _ _ d))

  -- a byte that agrees
  pub same_again : i < length a → get_or a i 0 ≡ get_or b i 0 → Same a b (i + 1)
  same_again h d = record { agree = rw add-one (sym (step a b i h (omega arith) ∙ rw (eq-eqb _ _ d)) ∙ v.agree) }

  -- no byte is left
  pub same-done : length a ≤ i → true ≡ same_bytes a b
  unfolding same_bytes same
  same-done h =
      let q : length b ≤ i = omega arith in
      rw (drop_of_length-le a h, drop_of_length-le b q) at v.agree

-- ## Tags

-- the tag of no bytes
pub tag_none : (bs : List ℕ) → length bs ≡ 0 → 0 ≡ tag_of bs
unfolding tag_of
tag_none [] e = refl
tag_none (b ∷ bs) e = absurd (omega arith)

-- its length and its first, last and middle byte make a tag
pub tag_is : (bs : List ℕ) (a b c : ℕ) → a ≡ get_or bs 0 0 → b ≡ get_or bs (length bs - 1) 0 → c ≡ get_or bs (length bs / 2) 0
    → length bs % 256 + 256 * a + 65536 * b + 16777216 * c ≡ tag_of bs
unfolding tag_of
tag_is bs a b c p q r = rw (p, q, r)

-- ## One entry

module _ (s w name : List ℕ) (at tag : ℕ) (g : tag ≡ tag_of name) where
  -- where the entry's identifier stands, and the test of its tag
  abbrev there : List ℕ
  there = part_of s (entry_part w at)

  abbrev fits : Bool
  fits = eqb (get_or w (at + 2) 0) (tag_of there)

  -- an entry of another tag is another name
  pub carries-other : (get_or w (at + 2) 0 ≡ tag → ⊥) → false ≡ carries same_bytes name (entry s w at)
  unfolding entry
  carries-other d = go fits (eqb (get_or w (at + 1) 0) 0) (eqb-true _ _)
    where
      go : (a b : Bool) → (a ≡ true → get_or w (at + 2) 0 ≡ tag_of there) → false ≡ carries same_bytes name (if a then (if b then none else some there) else none)
      go false b f = refl
      go true true f = refl
      go true false f = not-true (same_bytes name there) (λ e. d (f refl ∙ sym (ap tag_of (same-eq name there e)) ∙ sym g))

  module _ (len : ℕ) (l : len ≡ get_or w (at + 1) 0) where
    -- an entry of length 0 is no identifier
    pub carries-none : len ≡ 0 → false ≡ carries same_bytes name (entry s w at)
    unfolding entry
    carries-none e = go fits (eqb (get_or w (at + 1) 0) 0) (eq-eqb _ _ (sym l ∙ e))
      where
        go : (a b : Bool) → b ≡ true → false ≡ carries same_bytes name (if a then (if b then none else some there) else none)
        go false b e = refl
        go true true e = refl
        go true false e = absurd (false≢true e)

    -- the bytes decide
    pub carries_same : (r : Bool) (place : ℕ) (other : List ℕ) → get_or w (at + 2) 0 ≡ tag → (len ≡ 0 → ⊥) → place ≡ get_or w at 0
        → other ≡ part_of s (record { at = place; len = len }) → r ≡ same_bytes name other → r ≡ carries same_bytes name (entry s w at)
    unfolding entry
    carries_same r place other d h o b e =
        let k : other ≡ there = rw (sym l, sym o) b in
        e ∙ rw k (go fits (eqb (get_or w (at + 1) 0) 0) (ne_eqb _ _ (rw l at h)) (eqb-false _ _))
      where
        go : (a b : Bool) → b ≡ false → (a ≡ false → get_or w (at + 2) 0 ≡ tag_of there → ⊥)
            → same_bytes name there ≡ carries same_bytes name (if a then (if b then none else some there) else none)
        go true true e f = absurd (false≢true (sym e))
        go true false e f = refl
        go false b e f = sym (not-true (same_bytes name there) (λ q. f refl (d ∙ g ∙ ap tag_of (same-eq name there q))))

-- an entry that was written says its identifier
part_clipped : (s : List ℕ) (at len : ℕ) → part s (min at (length s)) len ≡ part s at len
unfolding part
part_clipped s at len = go (dec_le at (length s))
  where
    go : Dec (at ≤ length s) → take len (drop (min at (length s)) s) ≡ take len (drop at s)
    go (yes h) = let e : min at (length s) ≡ at = omega arith in rw e
    go (no h) = let e : min at (length s) ≡ length s = omega arith in let g : length s ≤ at = omega arith in rw (e, drop-length s, drop_of_length-le s g)

pub entry-written : (s w : List ℕ) (at : ℕ) (p : Part) → at + 2 < length w → entry s (entry_words s w at p) at ≡ id_of s p
unfolding entry entry_words
entry-written s w at p h =
    let r = tag_of (part_of s p) in
    let a = set w at (min p.at (length s)) in
    let b = set a (at + 1) p.len in
    let la : length a ≡ length w = length-set w at (min p.at (length s)) in
    let x : get_or (set b (at + 2) r) at 0 ≡ min p.at (length s) =
    get_or-set_other b (at + 2) at r 0 (λ e. omega arith) ∙ get_or-set_other a (at + 1) at p.len 0 (λ e. omega arith) ∙ get_or-set_same w at _ 0 (omega arith) in
    let y : get_or (set b (at + 2) r) (at + 1) 0 ≡ p.len = get_or-set_other b (at + 2) (at + 1) r 0 (λ e. omega arith) ∙ get_or-set_same a (at + 1) p.len 0 (omega arith) in
    let z : get_or (set b (at + 2) r) (at + 2) 0 ≡ r = get_or-set_same b (at + 2) r 0 (rw (length-set a (at + 1) p.len, la) h) in
    rw (x, y, z, part_clipped s p.at p.len, eq-eqb r r refl) refl

-- ## Looking along a list

-- k places on
unfoldable pub shifted : ℕ → Option ℕ → Option ℕ
shifted k none = none
shifted k (some n) = some (k + n)

-- k elements were passed, and the rest decides
pub record Looking {A : Type 0} (p : A → Bool) (whole : List A) (k : ℕ) (rest : List A) : Type 0 where
  pub same : first_at p whole ≡ shifted k (first_at p rest)

-- none was passed
pub look_begin : {A : Type 0} (p : A → Bool) (whole : List A) → Looking p whole 0 whole
unfolding shifted
look_begin p whole = record { same = go (first_at p whole) }
  where
    go : (o : Option ℕ) → o ≡ shifted 0 o
    go none = refl
    go (some n) = (let e : 0 + n ≡ n = omega arith in rw e)

module _ {A : Type 0} {p : A → Bool} {whole : List A} {k : ℕ} where
  -- the next element passes the test
  pub look_found : (x : A) (rest : List A) → Looking p whole k (x ∷ rest) → p x ≡ true → first_at p whole ≡ some k
  unfolding first_at shifted
  look_found x rest v e = v.same ∙ (let d : k + 0 ≡ k = omega arith in rw (e, d))

  -- it does not
  pub look_on : (x : A) (rest : List A) → Looking p whole k (x ∷ rest) → p x ≡ false → Looking p whole (k + 1) rest
  unfolding first_at shifted
  look_on x rest v e = record { same = v.same ∙ rw e (go (first_at p rest)) }
    where
      go : (o : Option ℕ) → shifted k (later o) ≡ shifted (k + 1) o
      go none = refl
      go (some n) = (let d : k + (n + 1) ≡ k + 1 + n = omega arith in rw d)

  -- no element is left
  pub look_none : Looking p whole k [] → first_at p whole ≡ none
  unfolding first_at shifted
  look_none v = v.same

-- ## The tables, one entry at a time

-- the first name, and the others
names_cons : (n : ℕ) (s w : List ℕ) (at : ℕ) → 0 < n → names n s w at ≡ entry s w at ∷ names (n - 1) s w (at + 3)
unfolding names
names_cons zero s w at h = absurd (omega arith)
names_cons (suc n) s w at h = let e : suc n - 1 ≡ n = omega arith in rw e

-- the innermost block, and the others
labels_cons : (n : ℕ) (s w : List ℕ) (base : ℕ) → 0 < n → labels n s w base ≡ entry s w (base + 3 * (n - 1)) ∷ labels (n - 1) s w base
unfolding labels
labels_cons zero s w base h = absurd (omega arith)
labels_cons (suc n) s w base h = let e : suc n - 1 ≡ n = omega arith in rw e

-- find_name: k entries were passed, the next stands at `at`
pub record Finding (s w : List ℕ) (base count : ℕ) (name : List ℕ) (k at : ℕ) : Type 0 where
  pub low : k ≤ count
  pub place : at ≡ base + 3 * k
  pub look : Looking (carries same_bytes name) (names count s w base) k (names (count - k) s w at)

-- no entry was passed
pub find-begin : (s w : List ℕ) (base count : ℕ) (name : List ℕ) → Finding s w base count name 0 base
find-begin s w base count name = record {
  low = omega arith;
  place = omega arith;
  look = (let e : count - 0 ≡ count = omega arith in rw e (look_begin (carries same_bytes name) (names count s w base)));
}

module _ {s w : List ℕ} {base count : ℕ} {name : List ℕ} {k at : ℕ} (v : Finding s w base count name k at) where
  -- the entry lies in the area
  pub find-room : base + 3 * count ≤ length w → k < count → at + 2 < length w
  find-room p h = omega (arith, v.place)

  -- the entry that is next
  next_look : k < count → Looking (carries same_bytes name) (names count s w base) k (entry s w at ∷ names (count - k - 1) s w (at + 3))
  next_look h = rw (names_cons (count - k) s w at (omega arith)) at v.look

  -- the entry carries the name
  pub find-found : (r : Bool) → k < count → r ≡ carries same_bytes name (entry s w at) → r ≡ true → find same_bytes name (names count s w base) ≡ found (Some k)
  unfolding find
  find-found r h e d = look_found _ _ (next_look h) (sym e ∙ d)

  -- it does not
  pub find_again : (r : Bool) → k < count → r ≡ carries same_bytes name (entry s w at) → r ≡ false → Finding s w base count name (k + 1) (at + 3)
  find_again r h e d = record {
    low = omega arith;
    place = omega (arith, v.place);
    look = (let m : count - k - 1 ≡ count - (k + 1) = omega arith in rw m at (look_on _ _ (next_look h) (sym e ∙ d)));
  }

  -- no entry is left
  pub find_none : count ≤ k → find same_bytes name (names count s w base) ≡ found None
  unfolding find names
  find_none h = look_none (let m : count - k ≡ 0 = omega arith in rw m at v.look)

-- label_depth: so many blocks are left, so many were passed
pub record Outward (s w : List ℕ) (base blocks : ℕ) (name : List ℕ) (left passed : ℕ) : Type 0 where
  pub sum : left + passed ≡ blocks
  pub look : Looking (carries same_bytes name) (labels blocks s w base) passed (labels left s w base)

-- every block is left
pub out_begin : (s w : List ℕ) (base blocks : ℕ) (name : List ℕ) → Outward s w base blocks name blocks 0
out_begin s w base blocks name = record { sum = omega arith; look = look_begin (carries same_bytes name) (labels blocks s w base) }

module _ {s w : List ℕ} {base blocks : ℕ} {name : List ℕ} {left passed : ℕ} (v : Outward s w base blocks name left passed) where
  -- the entry lies in the area
  pub out_room : base + 3 * blocks ≤ length w → (left ≡ 0 → ⊥) → base + 3 * (left - 1) + 2 < length w
  out_room p h = omega (arith, v.sum)

  -- the block carries the name
  pub out_found : (r : Bool) → (left ≡ 0 → ⊥) → r ≡ carries same_bytes name (entry s w (base + 3 * (left - 1))) → r ≡ true
      → find same_bytes name (labels blocks s w base) ≡ found (Some passed)
  unfolding find
  out_found r h e d = look_found _ _ (rw (labels_cons left s w base (omega arith)) at v.look) (sym e ∙ d)

  -- it does not
  pub out_again : (r : Bool) → (left ≡ 0 → ⊥) → r ≡ carries same_bytes name (entry s w (base + 3 * (left - 1))) → r ≡ false
      → Outward s w base blocks name (left - 1) (passed + 1)
  out_again r h e d = record {
    sum = omega (arith, v.sum);
    look = look_on _ _ (rw (labels_cons left s w base (omega arith)) at v.look) (sym e ∙ d);
  }

  -- no block is left
  pub out_none : left ≡ 0 → find same_bytes name (labels blocks s w base) ≡ found None
  unfolding find labels
  out_none h = look_none (rw h at v.look)

-- ## An index

-- a number below the limit, a number that is not checked, and one that is
module _ (strict : Bool) (limit r n : ℕ) where
  pub below-low : n < limit → below strict limit r n ≡ ok n
  unfolding below
  below-low h = rw (lt-ltb n limit h) (go strict)
    where
      go : (t : Bool) → (if t && not true then refused 20 r else ok n) ≡ ok n
      go true = refl
      go false = refl

  pub below_lax : (b : Bool) → b ≡ strict → b ≡ false → below strict limit r n ≡ ok n
  unfolding below
  below_lax b e f = rw (← e, f)

  pub below_not : (b : Bool) (z : Refusal) → limit ≤ n → b ≡ strict → b ≡ true → z ≡ refusal F.PointsNowhere r → below strict limit r n ≡ refused_by z
  unfolding below
  below_not b z h e f d = rw (← e, f, le-ltb n limit h, d)

pub ruleset belows = (below-low, below_lax, below_not)

module _ (strict : Bool) (ns : Namespace Identifier) (limit r : ℕ) (s : List ℕ) (x : Index) where
  -- an absent index is 0
  pub number-absent : (a : Answer ℕ) → x ≡ X.Absent → below strict limit r 0 ≡ a → number_in strict same_bytes ns limit r (index_of s x) ≡ a
  unfolding number_in
  number-absent a d h = rw d h

  -- a number is itself
  pub number-number : (n : ℕ) (a : Answer ℕ) → x ≡ X.Number n → below strict limit r n ≡ a → number_in strict same_bytes ns limit r (index_of s x) ≡ a
  unfolding number_in
  number-number n a d h = rw d h

  module _ (p : Part) (d : x ≡ X.Named p) (name : List ℕ) (b : name ≡ part_of s p) (q : Optional ℕ) (told : find same_bytes name ns ≡ found q) where
    -- a name that is there
    pub number-found : (k : ℕ) → q ≡ Some k → number_in strict same_bytes ns limit r (index_of s x) ≡ ok k
    unfolding number_in
    number-found k e = rw (d, sym b, told, e)

    -- a name that is not
    pub number-none : (z : Refusal) → q ≡ None → z ≡ refusal F.NoSuchName r → number_in strict same_bytes ns limit r (index_of s x) ≡ refused_by z
    unfolding number_in
    number-none z e f = rw (d, sym b, told, e, f)

pub ruleset numbers = (number-absent, number-number, number-found, number-none)

-- the place of an element is below the length
abbrev within : ℕ → Option ℕ → Type 0
within n none = Unit {0}
within n (some k) = k < n

-- so it is for the first that passes a test
first-low : {A : Type 0} (p : A → Bool) (xs : List A) → within (length xs) (first_at p xs)
unfolding first_at
first-low p [] = tt
first-low p (x ∷ xs) = go (p x) (first_at p xs) (first-low p xs)
  where
    go : (t : Bool) (o : Option ℕ) → within (length xs) o → within (suc (length xs)) (if t then some 0 else later o)
    go true o h = omega arith
    go false none h = tt
    go false (some n) h = omega arith

-- a table has as many names as entries
pub names-length : (n : ℕ) (s w : List ℕ) (base : ℕ) → length (names n s w base) ≡ n
unfolding names
names-length zero s w base = refl
names-length (suc n) s w base = ap suc (names-length n s w (base + 3))

-- and as many labels as open blocks
pub labels_length : (n : ℕ) (s w : List ℕ) (base : ℕ) → length (labels n s w base) ≡ n
unfolding labels
labels_length zero s w base = refl
labels_length (suc n) s w base = ap suc (labels_length n s w base)

module _ (name : List ℕ) (q : Optional ℕ) (k : ℕ) (d : q ≡ Some k) where
  -- the place of a name that was found
  found-low : (ns : Namespace Identifier) → find same_bytes name ns ≡ found q → k < length ns
  unfolding find
  found-low ns told = rw (told, d) at (first-low (carries same_bytes name) ns)

  module _ (s w : List ℕ) (base n : ℕ) where
    -- the number of a name is below their count
    pub names-below : find same_bytes name (names n s w base) ≡ found q → k < n
    names-below told = rw names-length at (found-low (names n s w base) told)

    -- and so a u32
    pub names_fit : find same_bytes name (names n s w base) ≡ found q → n ≤ 256 → Fits w32 k
    names_fit told h = let l = names-below told in record { fits = omega arith }

    -- the depth of a label is a u32
    pub labels_fit : find same_bytes name (labels n s w base) ≡ found q → n ≤ 128 → Fits w32 k
    labels_fit told h = let l : k < n = rw labels_length at (found-low (labels n s w base) told) in record { fits = omega arith }

-- ## Writing

pub entry_words_lem : (s w : List ℕ) (at place : ℕ) (p : Part) (name : List ℕ) (tag : ℕ) → place ≡ min p.at (length s) → name ≡ part_of s p → tag ≡ tag_of name
    → set (set (set w at place) (at + 1) p.len) (at + 2) tag ≡ entry_words s w at p
unfolding entry_words
entry_words_lem s w at place p name tag e b t = rw (e, t, b)

module _ (w : List ℕ) (at a : ℕ) (h : at + 2 < length w) where
  -- the second word of an entry lies in the area
  pub second_word : at + 1 < length (set w at a)
  second_word = rw (length-set w at a) (omega arith)

  -- the third
  pub third_word : (b : ℕ) → at + 2 < length (set (set w at a) (at + 1) b)
  third_word b = rw (length-set (set w at a) (at + 1) b, length-set w at a) h

-- ## Clearing

-- ## Is an identifier taken?

module _ (s : List ℕ) (p : Part) (ns : Namespace Identifier) where
  -- none is not
  pub taken_none : p.len ≡ 0 → false ≡ taken same_bytes (id_of s p) ns
  unfolding taken
  taken_none e = sym (rw (eq-eqb _ _ e))

  module _ (name : List ℕ) (q : Optional ℕ) (h : p.len ≡ 0 → ⊥) (b : name ≡ part_of s p) (told : find same_bytes name ns ≡ found q) where
    pub taken-found : (k : ℕ) → q ≡ Some k → true ≡ taken same_bytes (id_of s p) ns
    unfolding taken is_some
    taken-found k e = sym (rw (ne_eqb _ _ h, ← b, told, e))

    pub taken_not : q ≡ None → false ≡ taken same_bytes (id_of s p) ns
    unfolding taken is_some
    taken_not e = sym (rw (ne_eqb _ _ h, ← b, told, e))

pub ruleset takens = (taken_none, taken-found, taken_not)
