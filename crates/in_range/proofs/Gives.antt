-- What a reader gives, or an answer holds, whatever it is: laws by which a property is carried over a definition step by step.
use Rattle.std.specs.Prelude.{if◌then◌else◌}
use mathlib.Core.Path.{◌≡◌, refl}
use Prim.Native.Nat.{ℕ}
use mathlib.Core.Bool.{Bool, true, false}
use mathlib.Core.List.{List, [], ◌∷◌, ◌++◌, map}
use native.Mathlib.Omega.{arith}
use Rattle.definition.specs.Basic.{Refusal, Answer, ok, fails, refused, ◌>>=◌, each}
use Rattle.definition.specs.Syntax.{Bytes}
use Rattle.definition.specs.Reader.{Step, got, fault, Reader, onward}
use Rattle.in_range.specs.InRange.{Every}
use Rattle.laws.proofs.Interning.{came}
use Rattle.laws.proofs.Backwards as Backwards

-- ## Lists

pub every_append : {A : Type 0} (P : A → Type 0) (xs ys : List A) → Every P xs → Every P ys → Every P (xs ++ ys)
every_append P [] ys p q = q
every_append P (x ∷ xs) ys p q = (p.0, every_append P xs ys p.1 q)

pub every_left : {A : Type 0} (P : A → Type 0) (xs ys : List A) → Every P (xs ++ ys) → Every P xs
every_left P [] ys p = tt
every_left P (x ∷ xs) ys p = (p.0, every_left P xs ys p.1)

pub every_right : {A : Type 0} (P : A → Type 0) (xs ys : List A) → Every P (xs ++ ys) → Every P ys
every_right P [] ys p = p
every_right P (x ∷ xs) ys p = every_right P xs ys p.1

pub every_map : {A B : Type 0} (P : B → Type 0) (f : A → B) (xs : List A) → Every (λ x. P (f x)) xs → Every P (map f xs)
every_map P f [] p = tt
every_map P f (x ∷ xs) p = (p.0, every_map P f xs p.1)

-- ## Steps of readers

-- whatever is read has the property
pub record Gives {A : Type 0} (P : A → Type 0) (m : Step A) : Type 0 where
  pub holds : (x : A) (q : ℕ) → m ≡ got x q → P x

module _ {A : Type 0} {P : A → Type 0} where
  -- what is given has it
  pub gives : (a : A) (n : ℕ) → P a → Gives P (got a n)
  gives a n p = record { holds = λ x q e. let z : a ≡ x = cc in rw (← z) p }

  -- a fault gives nothing
  pub gives_none : (n : ℕ) → Gives P (fault n)
  gives_none n = record { holds = λ x q e. let z : ◌≡◌ {A = ℕ} 0 1 = cc in absurd (omega arith) }

  -- either of two readers
  pub gives_if : (t : Bool) (p q : Reader A) (s : Bytes) (at : ℕ) → Gives P (p s at) → Gives P (q s at) → Gives P ((if t then p else q) s at)
  gives_if true p q s at f g = f
  gives_if false p q s at f g = g

module _ {A B : Type 0} {P : B → Type 0} where
  -- one reader after another, the first of which has a property of its own, or none
  pub gives_by : (Q : A → Type 0) {m : Step A} {k : A → ℕ → Step B} → Gives Q m → ((a : A) (n : ℕ) → Q a → Gives P (k a n)) → Gives P (onward k m)
  gives_by Q {m} h f = record { holds = λ x q e. let c = Backwards.came m e in (f c.value c.next (h.holds c.value c.next c.first)).holds x q c.rest }

  pub gives_then : (m : Step A) (k : A → ℕ → Step B) → ((a : A) (n : ℕ) → Gives P (k a n)) → Gives P (onward k m)
  gives_then m k f = record { holds = λ x q e. let c = Backwards.came m e in (f c.value c.next).holds x q c.rest }

  -- either of two readers, and then another
  pub gives_if_then : (t : Bool) (p q : Reader A) (s : Bytes) (at : ℕ) (k : A → ℕ → Step B)
      → Gives P (onward k (p s at)) → Gives P (onward k (q s at)) → Gives P (onward k ((if t then p else q) s at))
  gives_if_then true p q s at k f g = f
  gives_if_then false p q s at k f g = g

  -- two readers, and then another
  pub gives_assoc : {C : Type 0} (m : Step C) (j : C → ℕ → Step A) (k : A → ℕ → Step B)
      → Gives P (onward (λ c n. onward k (j c n)) m) → Gives P (onward k (onward j m))
  gives_assoc (got c n) j k f = f
  gives_assoc (fault n) j k f = f

-- by which `search` follows a reader to what it gives
pub ruleset givings = (refl, gives, gives_none, gives_if, gives_if_then, gives_assoc, gives_then)

-- ## Answers

-- whatever is answered has the property
pub record Holds {A : Type 0} (P : A → Type 0) (a : Answer A) : Type 0 where
  pub of : (x : A) → a ≡ ok x → P x

module _ {A : Type 0} {P : A → Type 0} where
  -- what is answered has it
  pub held : (a : A) → P a → Holds P (ok a)
  held a p = record { of = λ x e. let z : a ≡ x = cc in rw (← z) p }

  -- a refusal answers nothing
  pub held_none : (q : Refusal) → Holds P (fails q)
  held_none q = record { of = λ x e. let z : ◌≡◌ {A = ℕ} 0 1 = cc in absurd (omega arith) }

  pub held_not : (n r : ℕ) → Holds P (refused n r)
  held_not n r = held_none _

  -- either answer
  pub held_if : (t : Bool) {a b : Answer A} → Holds P a → Holds P b → Holds P (if t then a else b)
  held_if true h g = h
  held_if false h g = g

-- one answer after another, the first of which has a property of its own, or none
pub held_by : {A B : Type 0} {P : B → Type 0} (Q : A → Type 0) {m : Answer A} {k : A → Answer B}
    → Holds Q m → ((a : A) → Q a → Holds P (k a)) → Holds P (m >>= k)
held_by Q {m} {k} h f = record { of = λ x e. let c = came m k x e in (f c.0 (h.of c.0 c.1)).of x c.2 }

pub held_then : {A B : Type 0} {P : B → Type 0} (m : Answer A) {k : A → Answer B} → ((a : A) → Holds P (k a)) → Holds P (m >>= k)
held_then m {k} f = record { of = λ x e. let c = came m k x e in (f c.0).of x c.2 }

-- each element in its turn, where each has a property of its own
pub held-each : {A B : Type 0} {P : B → Type 0} (Q : A → Type 0) (f : A → Answer B) (xs : List A)
    → Every Q xs → ((x : A) → Q x → Holds P (f x)) → Holds (Every P) (each f xs)
unfolding each
held-each Q f [] q h = held [] tt
held-each {P = P} Q f (x ∷ xs) q h = held_by P (h x q.0) λ y p. held_by (Every P) (held-each Q f xs q.1 h) λ ys ps. held (y ∷ ys) (p, ps)
