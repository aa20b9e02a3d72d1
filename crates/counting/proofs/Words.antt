-- The loop that puts the counts into the work area.
use Prim.Native.Nat.{ℕ, ◌+◌, ◌≤◌, ◌<◌}
use mathlib.Core.Path.{◌≡◌, refl, sym, ◌∙◌}
use mathlib.Core.List.{List}
use lib.ListN.{length, get_or, set, take, length-set}
use lib.Seq.{sets, take_all}
use native.Mathlib.Omega.{arith}
use Rattle.laws.proofs.Sets.{sets_more}

-- so many of them stand from `at` on
pub record Counting (w₀ xs : List ℕ) (at : ℕ) (w : List ℕ) (i : ℕ) : Type 0 where
  pub some : i ≤ 7
  pub same : w ≡ sets w₀ at (take i xs)
  pub long : length w ≡ length w₀

pub counting-begin : (w xs : List ℕ) (at : ℕ) → Counting w xs at w 0
counting-begin w xs at = record { some = omega arith; same = refl; long = refl }

module _ (w₀ xs : List ℕ) (at : ℕ) (w : List ℕ) (i : ℕ) (v : Counting w₀ xs at w i) where
  pub counting-long : length w ≡ length w₀
  counting-long = v.long

  module _ (f : length xs ≡ 7) where
    pub counting_again : i < 7 → Counting w₀ xs at (set w (at + i) (get_or xs i 0)) (i + 1)
    counting_again h =
        let a = v.same in
        record {
          some = omega arith;
          same = rw a (sym (sets_more w₀ xs at i (omega arith)));
          long = length-set w (at + i) (get_or xs i 0) ∙ v.long;
        }

    pub counting-done : 7 ≤ i → w ≡ sets w₀ at xs
    counting-done h = let e : i ≡ 7 = omega (arith, v.some) in let t : take i xs ≡ xs = take_all i xs (omega arith) in v.same ∙ rw t
