-- Lists in the stream, element by element, and lists of answers.
use Prim.Native.Nat.{ℕ, zero, suc, ◌+◌, ◌-◌, ◌≤◌, ◌<◌}
use mathlib.Core.Path.{◌≡◌, refl, sym, ap}
use mathlib.Core.List.{List, [], ◌∷◌, ◌++◌, append_assoc, append-nil}
use lib.ListN.{length}
use native.Mathlib.Omega.{arith}
use Rattle.syntax.specs.Refusals.{refused_by}
use Rattle.syntax.specs.declared.Refusal.{Refusal}
use Rattle.definition.specs.Basic.{Answer, ok, fails, ◌>>=◌, each, concat_map}
use Rattle.definition.specs.Syntax.{Bytes}
use Rattle.definition.specs.Reader.{got, fault, Reader}
use Rattle.syntax.specs.TypeUses.{elements}

-- ## Elements

module _ {A : Type 0} (p : Reader A) (s : Bytes) (at n : ℕ) where
  pub elements-none : n ≤ 0 → elements p s at n ≡ []
  unfolding elements
  elements-none h = let e : n ≡ 0 = omega arith in rw e

  -- one, and the others
  pub elements-more : (x : A) (next : ℕ) → 0 < n → p s at ≡ got x next → elements p s at n ≡ x ∷ elements p s next (n - 1)
  unfolding elements
  elements-more x next h e = go n h
    where
      go : (k : ℕ) → 0 < k → elements p s at k ≡ x ∷ elements p s next (k - 1)
      go zero h = absurd (omega arith)
      go (suc k) h = let d : suc k - 1 ≡ k = omega arith in rw (d, e)

  -- none where none is read
  pub elements-fault : (k : ℕ) → p s at ≡ fault k → elements p s at n ≡ []
  unfolding elements
  elements-fault k e = go n
    where
      go : (m : ℕ) → elements p s at m ≡ []
      go zero = refl
      go (suc m) = rw e

-- ## Bytes one after the other

pub concat_snoc : {A : Type 0} (g : A → Bytes) (xs : List A) (y : A) → concat_map g (xs ++ (y ∷ [])) ≡ concat_map g xs ++ g y
unfolding concat_map
concat_snoc g [] y = append-nil (g y)
concat_snoc g (x ∷ xs) y = rw (concat_snoc g xs y) (sym (append_assoc (g x) (concat_map g xs) (g y)))

-- ## Answers

-- some are done, and others follow
unfoldable pub after : {A : Type 0} → List A → List A → Answer (List A)
after done ys = ok (done ++ ys)

-- where the answer is a list, it has this length
unfoldable pub LongOf : {B : Type 0} → ℕ → Answer (List B) → Type 0
LongOf n (ok ys) = length ys ≡ n
LongOf n (fails q) = Unit {0}

module _ {A B : Type 0} (f : A → Answer B) where
  -- the next one is done
  pub each_more : (x : A) (xs : List A) (a : B) (done : List B) → f x ≡ ok a → (each f (x ∷ xs) >>= after done) ≡ (each f xs >>= after (done ++ (a ∷ [])))
  unfolding each ◌>>=◌ after
  each_more x xs a done e = rw e (go (each f xs))
    where
      go : (m : Answer (List B)) → ((m >>= λ ys. ok (a ∷ ys)) >>= λ ys. ok (done ++ ys)) ≡ (m >>= λ ys. ok ((done ++ (a ∷ [])) ++ ys))
      go (ok ys) = ap ok (sym (append_assoc done (a ∷ []) ys))
      go (fails q) = refl

  -- the next one is refused
  pub each_not : (x : A) (xs : List A) (done : List B) (r : Refusal) → f x ≡ refused_by r → (each f (x ∷ xs) >>= after done) ≡ refused_by r
  unfolding each ◌>>=◌
  each_not x xs done r e = rw e

  -- none follows
  pub each_none : (done : List B) → (each f [] >>= after done) ≡ ok done
  unfolding each ◌>>=◌ after
  each_none done = ap ok (append-nil done)

  pub each_all : (xs : List A) → each f xs ≡ (each f xs >>= after [])
  unfolding ◌>>=◌ after
  each_all xs = go (each f xs)
    where
      go : (m : Answer (List B)) → m ≡ (m >>= λ ys. ok ys)
      go (ok ys) = refl
      go (fails q) = refl

  each_long : (xs : List A) → LongOf (length xs) (each f xs)
  unfolding each ◌>>=◌ LongOf
  each_long [] = refl
  each_long (x ∷ xs) = go (f x) (each f xs) (each_long xs)
    where
      go : (m : Answer B) (a : Answer (List B)) → LongOf (length xs) a → LongOf (length (x ∷ xs)) (m >>= λ y. a >>= λ ys. ok (y ∷ ys))
      go (ok y) (ok ys) h = ap suc h
      go (ok y) (fails q) h = tt
      go (fails q) a h = tt

  -- as many answers as there are elements
  pub each-length : (xs : List A) (ys : List B) → each f xs ≡ ok ys → length ys ≡ length xs
  unfolding LongOf
  each-length xs ys e = let h : LongOf (length xs) (each f xs) = each_long xs in rw e at h
