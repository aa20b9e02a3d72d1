-- Words that say yes or no: written, and kept.
use Prim.Native.Nat.{ℕ, ◌<◌}
use mathlib.Core.Path.{◌≡◌, refl, ◌∙◌, ap}
use mathlib.Core.Bool.{Bool, true, false}
use mathlib.Core.List.{List}
use lib.Dec.{eqb}
use lib.ListN.{length, get_or, set}
use lib.Seq.{get_or-set_same}
use native.Mathlib.Omega.{arith}
use Rattle.area.specs.Kept.{Kept}
use Rattle.area.specs.Flags.{flag_in, flag_word, flag_put}
use Rattle.area.proofs.Kept.{kept_set, kept_word}

-- a word that has a flag says it
pub flag_of_lem : (w : List ℕ) (at : ℕ) (b : Bool) → get_or w at 0 ≡ flag_word b → flag_in at w ≡ b
unfolding flag_in
flag_of_lem w at b e = ap (λ n. eqb n 1) e ∙ go b
  where
    go : (b : Bool) → eqb (flag_word b) 1 ≡ b
    go true = refl
    go false = refl

pub flag-put : (w : List ℕ) (at : ℕ) (b : Bool) → at < length w → flag_in at (flag_put at w b) ≡ b
unfolding flag_put
flag-put w at b h = flag_of_lem (set w at (flag_word b)) at b (get_or-set_same w at (flag_word b) 0 h)

pub put-kept : (w : List ℕ) (at : ℕ) (b : Bool) → Kept at w (flag_put at w b)
unfolding flag_put
put-kept w at b = kept_set at at (flag_word b) w (omega arith)

pub flag-kept : (at : ℕ) {n : ℕ} {w w' : List ℕ} → Kept n w w' → at < n → flag_in at w' ≡ flag_in at w
unfolding flag_in
flag-kept at k h = ap (λ n. eqb n 1) (kept_word k at h)

-- what is written, and what is read
pub puts_flag : (w : List ℕ) (at : ℕ) (b : Bool) (n : ℕ) → n ≡ flag_word b → set w at n ≡ flag_put at w b
unfolding flag_put
puts_flag w at b n e = rw e

pub says-flag : (w : List ℕ) (at n : ℕ) → n ≡ get_or w at 0 → eqb n 1 ≡ flag_in at w
unfolding flag_in
says-flag w at n e = rw e
