-- What is only passed over: where a reader stops, along what the calls of the code answered.
use Rattle.std.specs.Prelude.{Ok, Err, IsErrAnd, if◌then◌else◌}
use Rattle.std.specs.Result.{IsErr}
use Rattle.syntax.specs.Refusals.{number}
use Rattle.syntax.specs.Reads.{Pass}
use mathlib.Core.Path.{◌≡◌, refl, ap, ◌∙◌}
use mathlib.Core.Bool.{Bool, true, false}
use Prim.Native.Nat.{ℕ}
use lib.Dec.{leb}
use native.Mathlib.Omega.{arith}
use Rattle.definition.specs.Syntax.{Bytes}
use Rattle.definition.specs.Reader.{Step, got, fault, Reader, onward, require, many}
use Rattle.definition.specs.Token.{up_to, id_byte, identifier₁}
use Rattle.laws.specs.Steps.{stops}
use Rattle.laws.proofs.Exits.{from_true, from_false, tests}
use Rattle.syntax.specs.declared.Fault.{Fault}
use Rattle.syntax.specs.Tokens.{skip}
use Rattle.syntax.proofs.Ways.{skip_handed}
use Rattle.token.specs.Readers.{name_length}

-- a value that is only made of another stops where that one does
pub stops-made : {A B : Type 0} (f : A → B) (m : Step A) → stops (onward (λ a next. got (f a) next) m) ≡ stops m
stops-made f (got a next) = refl
stops-made f (fault n) = refl

-- what was passed over has been read
pub record Gave {A : Type 0} (m : Step A) (n : ℕ) : Type 0 where
  pub value : A
  pub is : m ≡ got value n

pub gave_at : {A : Type 0} (m : Step A) (n : ℕ) → stops m ≡ got tt n → Gave m n
gave_at (got a q) n e = let z : q ≡ n = cc in record { value = a; is = rw z }
gave_at (fault k) n e = let z : ◌≡◌ {A = ℕ} 0 1 = cc in absurd (omega arith)

pub stopped_at : {A : Type 0} (m : Step A) (n : ℕ) → stops m ≡ fault n → m ≡ fault n
stopped_at (got a q) n e = let z : ◌≡◌ {A = ℕ} 0 1 = cc in absurd (omega arith)
stopped_at (fault k) n e = let z : k ≡ n = cc in rw z

-- the same by the answer of a call
pub gave : {A : Type 0} (m : Step A) (r : Pass) (n : ℕ) → stops m ≡ skip r → r ≡ Ok n → Gave m n
gave m r n e d = gave_at m n (e ∙ ap skip d)

pub gave_not : {A : Type 0} (m : Step A) (r : Pass) (n : Fault) → stops m ≡ skip r → r ≡ Err n → m ≡ fault (number n)
gave_not m r n e d = stopped_at m (number n) (e ∙ ap skip d)

-- the error of a call is handed on, where what is passed over stops by it
pub skip_fails : (m : Step (Unit {0})) (r : Pass) (n : Fault) → m ≡ fault (number n) → IsErr r → IsErrAnd r (λ e. e ≡ n) → m ≡ skip r
skip_fails m r n e i p = e ∙ skip_handed r n i p

-- ## Rules by which `search` and `grind` follow a reader to where it stops

module _ {B : Type 0} (x : Step (Unit {0})) where
  -- past what was read
  pub stops_on : {A : Type 0} (k : A → ℕ → Step B) (m : Step A) (a : A) (n : ℕ) → m ≡ got a n → stops (k a n) ≡ x → stops (onward k m) ≡ x
  stops_on k m a n e p = rw e p

  pub stops_end : {A : Type 0} (k : A → ℕ → Step B) (m : Step A) (n : ℕ) → m ≡ fault n → fault n ≡ x → stops (onward k m) ≡ x
  stops_end k m n e p = rw e p

  -- past what was passed over, whatever it gave
  pub stops_then : {A : Type 0} (k : A → ℕ → Step B) (m : Step A) (n : ℕ) → stops m ≡ got tt n → ((a : A) → stops (k a n) ≡ x) → stops (onward k m) ≡ x
  stops_then k m n e p = let g = gave_at m n e in rw g.is (p g.value)

  pub stops_not : {A : Type 0} (k : A → ℕ → Step B) (m : Step A) (n : ℕ) → stops m ≡ fault n → fault n ≡ x → stops (onward k m) ≡ x
  stops_not k m n e p = rw (stopped_at m n e) p

  -- a value that is made of what is read last
  pub stops_last : {A : Type 0} (f : A → B) (m : Step A) → stops m ≡ x → stops (onward (λ a next. got (f a) next) m) ≡ x
  stops_last f m p = stops-made f m ∙ p

  -- a test that passed, and one that did not
  pub stops_pass : (k : Unit {0} → ℕ → Step B) (n : ℕ) (t : Bool) (s : Bytes) (here : ℕ) → t ≡ true → stops (k tt here) ≡ x → stops (onward k (require n t s here)) ≡ x
  stops_pass k n t s here e p = rw e p

  pub stops_stop : (k : Unit {0} → ℕ → Step B) (n : ℕ) (t : Bool) (s : Bytes) (here : ℕ) → t ≡ false → fault n ≡ x → stops (onward k (require n t s here)) ≡ x
  stops_stop k n t s here e p = rw e p

  -- the reader that a test chooses
  pub stops_if : (f g : Reader B) (t : Bool) (s : Bytes) (here : ℕ) → t ≡ true → stops (f s here) ≡ x → stops ((if t then f else g) s here) ≡ x
  stops_if f g t s here e p = rw e p

  pub stops_else : (f g : Reader B) (t : Bool) (s : Bytes) (here : ℕ) → t ≡ false → stops (g s here) ≡ x → stops ((if t then f else g) s here) ≡ x
  stops_else f g t s here e p = rw e p

  -- what was read
  pub stops_read : (m : Step B) (a : B) (n : ℕ) → m ≡ got a n → got tt n ≡ x → stops m ≡ x
  stops_read m a n e p = rw e p

  pub stops_fault : (m : Step B) (n : ℕ) → m ≡ fault n → fault n ≡ x → stops m ≡ x
  stops_fault m n e p = rw e p

pub ruleset passed_over = (refl, skip_handed, stops_last, stops_on, stops_end, stops_then, stops_not, stops_pass, stops_stop, stops_if, stops_else, stops_read, stops_fault, from_true, from_false, tests)

-- ## Identifiers

-- the length is read and tested first
pub name_by : (s : Bytes) (at : ℕ) (x : Step Bytes) → onward (λ n next. many n id_byte s next) (name_length s at) ≡ x → identifier₁ s at ≡ x
unfolding identifier₁ name_length
name_by s at x p = go (up_to 5 64 s at) p
  where
    tested : (n next : ℕ) (t : Bool) → onward (λ n next. many n id_byte s next) (onward (λ _ next. got n next) (require 5 t s next)) ≡ x
        → onward (λ _ next. many n id_byte s next) (require 5 t s next) ≡ x
    tested n next true p = p
    tested n next false p = p

    go : (m : Step ℕ) → onward (λ n next. many n id_byte s next) (onward (λ n next. onward (λ _ next. got n next) (require 5 (leb 1 n) s next)) m) ≡ x
        → onward (λ n next. onward (λ _ next. many n id_byte s next) (require 5 (leb 1 n) s next)) m ≡ x
    go (got n next) p = tested n next (leb 1 n) p
    go (fault k) p = p

-- the same of where it stops
module _ (s : Bytes) (at : ℕ) where
  pub name_past : (n next : ℕ) → name_length s at ≡ got n next → stops (identifier₁ s at) ≡ stops (many n id_byte s next)
  name_past n next e = ap stops (name_by s at (many n id_byte s next) (rw e))

  pub name_stop : (k : ℕ) → name_length s at ≡ fault k → stops (identifier₁ s at) ≡ fault k
  name_stop k e = ap stops (name_by s at (fault k) (rw e))

pub ruleset names_passed = (name_past, name_stop, skip_handed)
