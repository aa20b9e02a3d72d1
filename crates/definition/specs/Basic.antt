-- What every part of the definition leans on: answers that may be a refusal, and searches in lists.
use Rattle.std.specs.Prelude.{ℕ, zero, suc, ◌+◌, Bool, true, false, ◌&&◌, ◌||◌, List, [], ◌∷◌, ◌++◌, eqb, leb, if◌then◌else◌}
use Rattle.std.proofs.Math.Option.{Option, none, some}

-- ## Answers

-- why a stream is refused: the number, the record at fault, and on a duplicate the record where the name was first used (document 02, §6)
pub record Refusal : Type 0 where
  pub number : ℕ
  pub rec : ℕ
  pub first : ℕ

-- anything but a duplicate: the record stands for both
abbrev pub refusal : ℕ → ℕ → Refusal
refusal n r = record { number = n; rec = r; first = r }

-- a result, or a refusal
pub data Answer (A : Type 0) : Type 0 where
  ok : A → Answer A
  fails : Refusal → Answer A

abbrev pub refused : {A : Type 0} → ℕ → ℕ → Answer A
refused n r = fails (refusal n r)

-- first one, then the other; a refusal stops
infixl 20 ◌>>=◌
unfoldable pub ◌>>=◌ : {A B : Type 0} → Answer A → (A → Answer B) → Answer B
ok a >>= k = k a
fails q >>= k = fails q

-- each element in its turn
unfoldable pub each : {A B : Type 0} → (A → Answer B) → List A → Answer (List B)
each f [] = ok []
each f (x ∷ xs) = f x >>= λ y. each f xs >>= λ ys. ok (y ∷ ys)

-- ## Lists

unfoldable pub concat_map : {A B : Type 0} → (A → List B) → List A → List B
concat_map f [] = []
concat_map f (x ∷ xs) = f x ++ concat_map f xs

-- does an element pass a test?
unfoldable pub any : {A : Type 0} → (A → Bool) → List A → Bool
any p [] = false
any p (x ∷ xs) = p x || any p xs

-- equal lists, by a test of their elements
unfoldable pub same : {A : Type 0} → (A → A → Bool) → List A → List A → Bool
same eq [] [] = true
same eq [] (y ∷ ys) = false
same eq (x ∷ xs) [] = false
same eq (x ∷ xs) (y ∷ ys) = eq x y && same eq xs ys

unfoldable pub same_bytes : List ℕ → List ℕ → Bool
same_bytes = same eqb

abbrev pub later : Option ℕ → Option ℕ
later none = none
later (some n) = some (n + 1)

-- the place of the first element that passes a test
unfoldable pub first_at : {A : Type 0} → (A → Bool) → List A → Option ℕ
first_at p [] = none
first_at p (x ∷ xs) = if p x then some 0 else later (first_at p xs)

-- the element at a place
unfoldable pub at : {A : Type 0} → List A → ℕ → Option A
at [] n = none
at (x ∷ xs) zero = some x
at (x ∷ xs) (suc n) = at xs n

unfoldable pub is_some : {A : Type 0} → Option A → Bool
is_some none = false
is_some (some a) = true

-- what is there, or else something
abbrev pub some_or : {A : Type 0} → A → Option A → A
some_or z none = z
some_or z (some a) = a

unfoldable pub between : ℕ → ℕ → ℕ → Bool
between low high n = leb low n && leb n high
