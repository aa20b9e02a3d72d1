-- Rules by which `search` and `grind` follow the definition along what the calls of the code answered, past each `?`.
use Rattle.std.specs.Prelude.{◌≡◌, ℕ, Result, Ok, Err, IsErrAnd, refl}
use Rattle.std.specs.Result.{IsErr}
use Rattle.definition.specs.Basic as Basic
use Rattle.definition.specs.Basic.{Answer, ◌>>=◌}
use Rattle.definition.specs.Reader.{Step, got, fault, onward}
use Rattle.syntax.specs.Reads.{Read, Pass, step}
use Rattle.syntax.specs.Refusals.{number, refusal_of, refused_by, Resolved, answer}
use Rattle.syntax.specs.Tokens.{skip}
use Rattle.syntax.specs.declared.Fault.{Fault}
use Rattle.syntax.specs.declared.Refusal.{Refusal}

-- ## Readers

-- the definition goes on where a reader gave something, and ends where it found a fault
pub goes_on : {B C : Type 0} (x : Step C) (k : B → ℕ → Step C) (m : Step B) (a : B) (n : ℕ) → m ≡ got a n → k a n ≡ x → onward k m ≡ x
goes_on x k m a n e q = rw e q

pub ends : {B C : Type 0} (x : Step C) (k : B → ℕ → Step C) (m : Step B) (n : ℕ) → m ≡ fault n → fault n ≡ x → onward k m ≡ x
ends x k m n e q = rw e q

-- ## Resolving

pub resolves_on : {A B : Type 0} (x : Answer B) (k : A → Answer B) (m : Answer A) (a : A) → m ≡ Basic.ok a → k a ≡ x → (m >>= k) ≡ x
unfolding ◌>>=◌
resolves_on x k m a e q = rw e q

pub resolves_not : {A B : Type 0} (x : Answer B) (k : A → Answer B) (m : Answer A) (q : Basic.Refusal) → m ≡ Basic.fails q → Basic.fails q ≡ x → (m >>= k) ≡ x
unfolding ◌>>=◌
resolves_not x k m q e p = rw e p

-- ## What `?` hands on is the error of the call

pub handed : {A E : Type 0} (r : Result A E) (q : E) → IsErr r → IsErrAnd r (λ e. e ≡ q) → r ≡ Err q
handed (Ok a) q i p = absurd p
handed (Err e) q i p = rw p

pub fault_handed : {A B : Type 0} (f : A → B) (r : Read A) (n : Fault) → IsErr r → IsErrAnd r (λ e. e ≡ n) → fault (number n) ≡ step f r
fault_handed f (Ok a) n i p = absurd p
fault_handed f (Err e) n i p = rw p

pub skip_handed : (r : Pass) (n : Fault) → IsErr r → IsErrAnd r (λ e. e ≡ n) → fault (number n) ≡ skip r
skip_handed (Ok a) n i p = absurd p
skip_handed (Err e) n i p = rw p

pub refusal_handed : {A B : Type 0} (f : A → B) (r : Resolved A) (q : Refusal) → IsErr r → IsErrAnd r (λ e. e ≡ q) → refused_by q ≡ answer f r
refusal_handed f (Ok a) q i p = absurd p
refusal_handed f (Err e) q i p = rw p

pub ruleset reads = (goes_on, ends, fault_handed, skip_handed, refl)

pub ruleset resolves = (resolves_on, resolves_not, refusal_handed, refl)
