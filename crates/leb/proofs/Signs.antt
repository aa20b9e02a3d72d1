-- Integers through the machine's bits: what the code of one group, and of a pattern, comes to. `of_z w64 z` are the bits of z, and `to_z w64` reads them.
use Prim.Native.Nat.{ℕ, zero, suc, ◌-◌, ◌%◌, ◌^◌, ◌≤◌, ◌<◌}
use mathlib.Core.Path.{◌≡◌, refl, sym, ◌∙◌, ap}
use mathlib.Core.Bool.{true, false}
use lib.Bits.{bit_and, and_mask}
use lib.Dec.{T, leb-suc-suc}
use lib.IntN.{ℤ, pos, negsuc, nat_abs, ◌-ℤ◌}
use lib.Signed.{non_neg, lt_z, le_z}
use borrow.Author.Tests.{ltb-true, ltb-false, lt-ltb, le-ltb}
use native.Mathlib.Nat.{zero-add}
use native.Mathlib.Omega.{arith}
use mir.Syntax.{w8, w64}
use mir.Val.{Fits, SFits, to_z, of_z}
use mir.ValLaws.{to_z-of_z, to_z_pos}
use Rattle.definition.specs.Binary.{low7, fits7, integer}
use Rattle.laws.proofs.Groups.{low7_small}

-- ## `low7`

low_bits : (z : ℤ) → SFits w64 z → of_z w64 z % 128 ≡ low7 z
unfolding low7
low_bits (pos n) f = refl
low_bits (negsuc n) f = omega (arith, f.sfits)

module _ (z : ℤ) (f : SFits w64 z) where
  masked : to_z w64 (bit_and (of_z w64 z) 127) ≡ pos (low7 z)
  masked = ap (to_z w64) (and_mask (of_z w64 z) 7 ∙ low_bits z f) ∙ to_z_pos w64 (low7 z) (omega (arith, low7_small z))

  pub low_cast : T (non_neg (to_z w64 (bit_and (of_z w64 z) 127))) × Fits w8 (nat_abs (to_z w64 (bit_and (of_z w64 z) 127)))
  low_cast = rw masked (tt, record { fits = omega (arith, low7_small z) })

  pub low-is : nat_abs (to_z w64 (bit_and (of_z w64 z) 127)) ≡ low7 z
  low-is = ap nat_abs masked

-- ## `fits7`

below : (z : ℤ) (k : ℕ) → 63 ≤ k → lt_z z (negsuc k) ≡ true → false ≡ fits7 z
unfolding fits7
below (pos n) k h e = let z : ◌≡◌ {A = ℕ} 0 1 = cc in absurd (omega arith)
below (negsuc n) k h e = sym (le-ltb n 64 (omega (arith, ltb-true k n e)))

from : (z : ℤ) → lt_z z (negsuc 63) ≡ false → le_z z (pos 63) ≡ fits7 z
unfolding fits7
from (pos n) e = sym (leb-suc-suc n 63)
from (negsuc n) e = sym (lt-ltb n 64 (omega (arith, ltb-false 63 n e)))

module _ (z : ℤ) (f : SFits w64 z) where
  -- below −64, and so below any lower end
  pub fits_below : (k : ℕ) → 63 ≤ k → lt_z (to_z w64 (of_z w64 z)) (negsuc k) ≡ true → false ≡ fits7 z
  fits_below k h e = below z k h (rw (to_z-of_z w64 z f) at e)

  -- from −64 on the other end decides
  pub fits-from : lt_z (to_z w64 (of_z w64 z)) (negsuc 63) ≡ false → le_z (to_z w64 (of_z w64 z)) (pos 63) ≡ fits7 z
  fits-from e = rw (to_z-of_z w64 z f) (from z (rw (to_z-of_z w64 z f) at e))

-- ## `integer32` and `integer64`, one law over the bits; `top` is the pattern of −1

pub integer_pos : (bits n : ℕ) → n < 2 ^ (bits - 1) → 2 ^ (bits - 1) ≤ 2 ^ 63 → to_z w64 n ≡ integer bits n
unfolding integer
integer_pos bits n h b = to_z_pos w64 n (omega arith) ∙ sym (simp (lt-ltb _ _ h))

-- −1 − n
turn : (n : ℕ) → negsuc 0 -ℤ pos n ≡ negsuc n
turn zero = refl
turn (suc n) = ap (λ k. negsuc (suc k)) (zero-add n)

module _ (half top n : ℕ) (h : half ≤ n) (b : top - half < 2 ^ 63) where
  turned : negsuc 0 -ℤ to_z w64 (top - n) ≡ negsuc (top - n)
  turned = ap (λ z. negsuc 0 -ℤ z) (to_z_pos w64 (top - n) (omega arith)) ∙ turn (top - n)

  pub turned-fits : SFits w64 (negsuc 0 -ℤ to_z w64 (top - n))
  turned-fits = rw turned (record { sfits = omega arith })

pub integer_neg : (bits top n : ℕ) → 2 ^ (bits - 1) ≤ n → top ≡ 2 ^ bits - 1 → top - 2 ^ (bits - 1) < 2 ^ 63
    → to_z w64 (of_z w64 (negsuc 0 -ℤ to_z w64 (top - n))) ≡ integer bits n
unfolding integer
integer_neg bits top n h e b =
    to_z-of_z w64 _ (turned-fits (2 ^ (bits - 1)) top n h b) ∙ turned (2 ^ (bits - 1)) top n h b
    ∙ sym (simp (le-ltb _ _ h) (ap (λ k. negsuc (k - n)) (sym e)))
