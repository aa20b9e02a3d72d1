-- What contracts require of a place that was read before.
use Rattle.std.specs.Prelude.{ℕ, ◌≡◌}
use Rattle.definition.specs.Reader.{Step, got}

-- a reader gets something here
pub record Gets {A : Type 0} (m : Step A) : Type 0 where
  pub value : A
  pub next : ℕ
  pub is : m ≡ got value next
