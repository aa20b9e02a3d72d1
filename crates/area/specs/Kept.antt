-- What stays as it was: the words of the work area below a place.
use Rattle.std.specs.Prelude.{ℕ, ◌≡◌, List, length, take}

-- of `w` was made `w'`, and the words below `n` are as they were
pub record Kept (n : ℕ) (w w' : List ℕ) : Type 0 where
  pub low : take n w' ≡ take n w
  pub long : length w' ≡ length w
