-- The loop that clears the work area.
use Prim.Native.Nat.{ℕ, ◌+◌, ◌≤◌, ◌<◌}
use mathlib.Core.Path.{◌≡◌, refl, ◌∙◌}
use mathlib.Core.List.{List, ◌++◌, append-nil}
use lib.ListN.{length, set, drop, replicate, length-set}
use lib.Seq.{drop-length}
use borrow.Author.Fill.{fill_more}
use native.Mathlib.Omega.{arith}

-- the first i words are 0
pub record Cleared (w₀ w : List ℕ) (i : ℕ) : Type 0 where
  pub low : i ≤ length w₀
  pub long : length w ≡ length w₀
  pub zeros : w ≡ replicate i 0 ++ drop i w₀

-- no word yet
pub clear_begin : (w : List ℕ) → Cleared w w 0
clear_begin w = record { low = omega arith; long = refl; zeros = refl }

-- one word more
pub clear_again : {w₀ w : List ℕ} {i : ℕ} → Cleared w₀ w i → i < length w → Cleared w₀ (set w i 0) (i + 1)
clear_again {w₀} {w} {i} v h = record {
  low = omega (arith, v.long);
  long = length-set w i 0 ∙ v.long;
  zeros = rw v.zeros (fill_more i 0 w₀ (omega (arith, v.long)));
}

-- every word
pub clear_done : {w₀ w : List ℕ} {i : ℕ} → Cleared w₀ w i → length w ≤ i → w ≡ replicate (length w₀) 0
clear_done {w₀} {w} {i} v h = let e : i ≡ length w₀ = omega (arith, v.low, v.long) in
    v.zeros ∙ rw (e, drop-length) (append-nil (replicate (length w₀) 0))
