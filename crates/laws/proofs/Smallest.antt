-- The types that interning finds are the shortest list that begins with the declared ones and has an equal signature for each use.
use Rattle.std.specs.Prelude.{if◌then◌else◌}
use mathlib.Core.Path.{◌≡◌, refl, ap, ◌∙◌, sym}
use Prim.Native.Nat.{ℕ, zero, suc, ◌+◌, ◌≤◌}
use mathlib.Core.Bool.{Bool, true, false, false≢true}
use mathlib.Core.List.Memᴰ
use mathlib.Core.List.{List, [], ◌∷◌, ◌++◌, map, Memᴰ}
use mathlib.Core.Option.{Option, none, some}
use mathlib.Core.Logic.{◌⊎◌, inl, inr}
use lib.Dec.{eqb, leb}
use lib.ListN.{length, length-append}
use borrow.Author.Tests.{eqb-true}
use native.Mathlib.Omega.{arith}
use Rattle.definition.specs.Basic.{ok, refused, same, same_bytes, first_at, later, at}
use Rattle.definition.specs.Syntax.{FuncType}
use Rattle.definition.specs.Types.{same_type, type_at, take_or_add, intern, Uses}
use Rattle.laws.proofs.Equal.{and_true}
use Rattle.laws.proofs.Interning.{first_passes, same-type_itself, Has, came, intern_has}

-- ## Equal signatures are one

same-is : (a b : List ℕ) → same_bytes a b ≡ true → a ≡ b
unfolding same_bytes same
same-is [] [] e = refl
same-is [] (y ∷ ys) e = absurd (false≢true e)
same-is (x ∷ xs) [] e = absurd (false≢true e)
same-is (x ∷ xs) (y ∷ ys) e =
    let h = and_true (eqb x y) (same_bytes xs ys) e in
    let p = eqb-true x y h.0 in
    let q = same-is xs ys h.1 in cc

same-type-is : (t u : FuncType) → same_type t u ≡ true → t ≡ u
unfolding same_type
same-type-is t u e =
    let h = and_true (same_bytes t.params u.params) (same_bytes t.results u.results) e in
    let p = same-is t.params u.params h.0 in
    let q = same-is t.results u.results h.1 in
    ap₂' p q
  where
    ap₂' : t.params ≡ u.params → t.results ≡ u.results → t ≡ u
    ap₂' p q = λ i. record { params = p i; results = q i }

-- ## Places of an element

module _ {A : Type 0} where
  at_mem : (xs : List A) (n : ℕ) (x : A) → at xs n ≡ some x → Memᴰ x xs
  unfolding at
  at_mem [] n x e = let z : ◌≡◌ {A = ℕ} 0 1 = cc in absurd (omega arith)
  at_mem (y ∷ xs) zero x e = let z : x ≡ y = cc in Memᴰ.head z
  at_mem (y ∷ xs) (suc n) x e = Memᴰ.tail (at_mem xs n x e)

  -- a list around one of its elements
  record Around (x : A) (xs : List A) : Type 0 where
    before : List A
    after : List A
    is : xs ≡ before ++ (x ∷ after)

  around : (x : A) (xs : List A) → Memᴰ x xs → Around x xs
  around x [] m = absurd (Memᴰ.not-nil m)
  around x (y ∷ xs) m = go (Memᴰ.cases_cons m) (around x xs)
    where
      go : (x ≡ y) ⊎ Memᴰ x xs → (Memᴰ x xs → Around x xs) → Around x (y ∷ xs)
      go (inl e) f = record { before = []; after = xs; is = ap (λ z. z ∷ xs) (sym e) }
      go (inr n) f = let a = f n in record { before = y ∷ a.before; after = a.after; is = ap (λ z. y ∷ z) a.is }

-- a signature is among the types exactly where interning finds it
has_mem : (t : FuncType) (ts : List FuncType) → Has t ts → Memᴰ t ts
unfolding type_at
has_mem t ts h =
    let f = first_passes (same_type t) ts h.number h.found in
    at_mem ts h.number t (f.1 ∙ ap some (sym (same-type-is t f.0 f.2)))

-- one that interning does not find is not there
mem_has : (t : FuncType) (ts : List FuncType) → Memᴰ t ts → type_at t ts ≡ none → ⊥
unfolding type_at first_at
mem_has t [] m e = Memᴰ.not-nil m
mem_has t (u ∷ ts) m e = go (Memᴰ.cases_cons m) (first_at (same_type t) ts) refl e (mem_has t ts)
  where
    go : (t ≡ u) ⊎ Memᴰ t ts → (a : Option ℕ) → first_at (same_type t) ts ≡ a → (if same_type t u then some 0 else later a) ≡ none
        → (Memᴰ t ts → first_at (same_type t) ts ≡ none → ⊥) → ⊥
    go (inl d) a f e h =
        let p : same_type t u ≡ true = rw (← d) (same-type_itself t) in
        let q : ◌≡◌ {A = Option ℕ} (some 0) none = rw p at e in
        let z : ◌≡◌ {A = ℕ} 0 1 = cc in omega arith
    go (inr n) a f e h = step (same_type t u) a f e
      where
        step : (b : Bool) (a : Option ℕ) → first_at (same_type t) ts ≡ a → (if b then some 0 else later a) ≡ none → ⊥
        step true a f e = let z : ◌≡◌ {A = ℕ} 0 1 = cc in omega arith
        step false none f e = h n f
        step false (some k) f e = let z : ◌≡◌ {A = ℕ} 0 1 = cc in omega arith

-- ## The shortest list

-- the signatures of some uses
abbrev pub signatures : Uses → List FuncType
signatures us = map (λ u. u.1) us

-- the list has an equal signature for each use
pub record Enough (us : Uses) (l : List FuncType) : Type 0 where
  pub has : (t : FuncType) → Memᴰ t (signatures us) → Memᴰ t l

enough_rest : {u : ℕ × FuncType} {us : Uses} {l : List FuncType} → Enough (u ∷ us) l → Enough us l
enough_rest h = record { has = λ t m. h.has t (Memᴰ.tail m) }

-- moving one element to the front part changes neither what is there nor how much
module _ (ts before after : List FuncType) (t : FuncType) where
  moved : (u : FuncType) → Memᴰ u (ts ++ (before ++ (t ∷ after))) → Memᴰ u ((ts ++ (t ∷ [])) ++ (before ++ after))
  moved u m = one (Memᴰ.append_cases ts m)
    where
      three : (u ≡ t) ⊎ Memᴰ u after → Memᴰ u ((ts ++ (t ∷ [])) ++ (before ++ after))
      three (inl e) = Memᴰ.append_left (before ++ after) (Memᴰ.append_right ts (Memᴰ.head e))
      three (inr n) = Memᴰ.append_right (ts ++ (t ∷ [])) (Memᴰ.append_right before n)

      two : Memᴰ u before ⊎ Memᴰ u (t ∷ after) → Memᴰ u ((ts ++ (t ∷ [])) ++ (before ++ after))
      two (inl n) = Memᴰ.append_right (ts ++ (t ∷ [])) (Memᴰ.append_left after n)
      two (inr n) = three (Memᴰ.cases_cons n)

      one : Memᴰ u ts ⊎ Memᴰ u (before ++ (t ∷ after)) → Memᴰ u ((ts ++ (t ∷ [])) ++ (before ++ after))
      one (inl n) = Memᴰ.append_left (before ++ after) (Memᴰ.append_left (t ∷ []) n)
      one (inr n) = two (Memᴰ.append_cases before n)

  moved_length : length ((ts ++ (t ∷ [])) ++ (before ++ after)) ≡ length (ts ++ (before ++ (t ∷ after)))
  moved_length = simp length-append (omega arith)

-- no list that has enough is shorter
pub least : (us : Uses) (ts more all : List FuncType) → intern ts us ≡ ok all → Enough us (ts ++ more) → length all ≤ length (ts ++ more)
unfolding intern
least [] ts more all e h = let d : all ≡ ts = cc in rw d (simp length-append (omega arith))
least ((r, t) ∷ us) ts more all e h =
    let c = came (take_or_add r t ts (type_at t ts)) (λ vs. intern vs us) all e in
    go (type_at t ts) refl c.0 c.1 c.2 (λ vs rest f w. least us vs rest all f w)
  where
    Rest : Type 0
    Rest = (vs rest : List FuncType) → intern vs us ≡ ok all → Enough us (vs ++ rest) → length all ≤ length (vs ++ rest)

    add : type_at t ts ≡ none → (full : Bool) (vs : List FuncType) → (if full then refused 12 r else ok (ts ++ (t ∷ []))) ≡ ok vs → intern vs us ≡ ok all → Rest
        → Memᴰ t ts ⊎ Memᴰ t more → length all ≤ length (ts ++ more)
    add f full vs d g w (inl m) = absurd (mem_has t ts m f)
    add f true vs d g w (inr m) = let z : ◌≡◌ {A = ℕ} 0 1 = cc in absurd (omega arith)
    add f false vs d g w (inr m) =
        let a = around t more m in
        let is : vs ≡ ts ++ (t ∷ []) = cc in
        let k : Enough us ((ts ++ (t ∷ [])) ++ (a.before ++ a.after)) =
        record { has = λ u n. moved ts a.before a.after t u (rw a.is at (h.has u (Memᴰ.tail n))) } in
        let l = w (ts ++ (t ∷ [])) (a.before ++ a.after) (rw is at g) k in
        rw (a.is, ← moved_length ts a.before a.after t) l

    go : (o : Option ℕ) → type_at t ts ≡ o → (vs : List FuncType) → take_or_add r t ts o ≡ ok vs → intern vs us ≡ ok all → Rest → length all ≤ length (ts ++ more)
    go (some n) f vs d g w = let is : vs ≡ ts = cc in w ts more (rw is at g) (enough_rest h)
    go none f vs d g w = add f (leb 256 (length ts)) vs d g w (Memᴰ.append_cases ts (h.has t (Memᴰ.head refl)))

-- a signature that is used is that of a use
used : (us : Uses) (t : FuncType) → Memᴰ t (signatures us) → (r : ℕ) × Memᴰ (r, t) us
used [] t m = absurd (Memᴰ.not-nil m)
used ((r, u) ∷ us) t m = step (used us t) (Memᴰ.cases_cons m)
  where
    step : (Memᴰ t (signatures us) → (q : ℕ) × Memᴰ (q, t) us) → (t ≡ u) ⊎ Memᴰ t (signatures us) → (q : ℕ) × Memᴰ (q, t) ((r, u) ∷ us)
    step f (inl d) = (r, Memᴰ.head (ap (λ x. (r, x)) d))
    step f (inr n) = ((f n).0, Memᴰ.tail (f n).1)

-- what interning finds is enough
pub enough : (ts : List FuncType) (us : Uses) (all : List FuncType) → intern ts us ≡ ok all → Enough us all
enough ts us all e = record { has = λ t m. has_mem t all (intern_has ts us all e (used us t m).0 t (used us t m).1) }
