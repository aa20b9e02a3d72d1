-- What every routine over the work area is lent.
use Rattle.std.specs.Prelude.{ℕ, ◌≤◌, ◌<◌, List, length}
use Rattle.area.specs.Layout.{WORDS, BYTES}

-- a stream that is short enough, and a work area that is long enough
pub record Lent (s w : List ℕ) : Type 0 where
  pub stream : length s ≤ BYTES
  pub area : WORDS ≤ length w

-- the same, at a record
pub record At (s w : List ℕ) (rec : ℕ) : Type 0 where
  pub lent : Lent s w
  pub few : rec < 4096
