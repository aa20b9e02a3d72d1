-- A loop that passes over `n` of a thing, `i` of them so far.
use mathlib.Core.Path.{◌≡◌}
use Prim.Native.Nat.{ℕ, ◌+◌, ◌-◌, ◌≤◌, ◌<◌}
use native.Mathlib.Omega.{arith}
use Rattle.definition.specs.Syntax.{Bytes}
use Rattle.definition.specs.Reader.{got, fault, Reader, many}
use Rattle.laws.specs.Steps.{stops}
use Rattle.laws.proofs.Passing.{Passing, pass-begin, pass_again, pass-fault, pass-done}

module _ {A : Type 0} (p : Reader A) (n : ℕ) (s : Bytes) (at : ℕ) where
  pub none_passed : Passing p n s at (n - 0) at
  none_passed = let m : n - 0 ≡ n = omega arith in rw m (pass-begin p n s at)

  module _ (i here : ℕ) (v : Passing p n s at (n - i) here) where
    pub one_passed : (next : ℕ) → i < n → stops (p s here) ≡ got tt next → Passing p n s at (n - (i + 1)) next
    one_passed next h e = let m : n - (i + 1) ≡ n - i - 1 = omega arith in rw m (pass_again p n s at (n - i) here v next (omega arith) e)

    pub one_not : (k : ℕ) → i < n → stops (p s here) ≡ fault k → stops (many n p s at) ≡ fault k
    one_not k h e = pass-fault p n s at (n - i) here v k (omega arith) e

    pub all_passed : n ≤ i → stops (many n p s at) ≡ got tt here
    all_passed h = pass-done p n s at (n - i) here v (omega arith)

pub ruleset counts = (none_passed, one_passed, one_not, all_passed)
