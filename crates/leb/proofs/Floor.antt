-- Dividing by 128 rounding down, with a division that rounds towards zero: what each step of the code comes to. `mag z` is z, or −(z + 1) of a
-- negative one, and dividing it rounds either way alike.
use Prim.Native.Nat.{ℕ, zero, suc, ◌/◌, ◌^◌, ◌≤◌}
use mathlib.Core.Path.{◌≡◌, refl, sym, ◌∙◌, ap}
use mathlib.Core.Bool.{true, false}
use lib.IntN.{ℤ, pos, negsuc, neg_ℤ, ◌+ℤ◌, ◌-ℤ◌, +ℤ_one}
use lib.Signed.{mag, lt_z, quot_z}
use borrow.Author.Tests.{ltb-true}
use native.Mathlib.Nat.{add-zero}
use native.Mathlib.Omega.{arith}
use mir.Syntax.{w64}
use mir.Val.{SFits, to_z, of_z}
use mir.ValLaws.{to_z-of_z}
use Rattle.definition.specs.Binary.{over128}

fits_neg : (n : ℕ) → n ≤ 2 ^ 63 → SFits w64 (neg_ℤ (pos n))
fits_neg zero h = record { sfits = omega arith }
fits_neg (suc n) h = record { sfits = omega arith }

up_neg : (n : ℕ) → negsuc n +ℤ pos 1 ≡ neg_ℤ (pos n)
up_neg zero = +ℤ_one (negsuc zero)
up_neg (suc n) = +ℤ_one (negsuc (suc n))

quot_neg : (n : ℕ) → quot_z (neg_ℤ (pos n)) (pos 128) ≡ neg_ℤ (pos (n / 128))
quot_neg zero = refl
quot_neg (suc n) = refl

down_neg : (n : ℕ) → neg_ℤ (pos n) -ℤ pos 1 ≡ negsuc n
down_neg zero = refl
down_neg (suc n) = ap (λ (k : ℕ). negsuc (suc k)) (add-zero n)

-- an operand as the machine hands it on
abbrev bits : ℤ → ℤ
bits z = to_z w64 (of_z w64 z)

module _ (x : ℤ) (f : SFits w64 x) where
  -- below zero: one is added, the quotient rounds towards zero, and one is taken
  module _ (t : lt_z (bits x) (pos 0) ≡ true) where
    is_neg : x ≡ negsuc (mag x)
    is_neg = go x (rw (to_z-of_z w64 x f) at t)
      where
        go : (z : ℤ) → lt_z z (pos 0) ≡ true → z ≡ negsuc (mag z)
        go (pos n) e = absurd (omega (arith, ltb-true n 0 e))
        go (negsuc n) e = refl

    up : bits x +ℤ pos 1 ≡ neg_ℤ (pos (mag x))
    up = ap (λ (z : ℤ). z +ℤ pos 1) (to_z-of_z w64 x f ∙ is_neg) ∙ up_neg (mag x)

    pub up_fits : SFits w64 (bits x +ℤ pos 1)
    up_fits = rw up (fits_neg (mag x) (omega (arith, f.sfits)))

    quot : quot_z (bits (bits x +ℤ pos 1)) (pos 128) ≡ neg_ℤ (pos (mag x / 128))
    quot = ap (λ (z : ℤ). quot_z z (pos 128)) (to_z-of_z w64 (bits x +ℤ pos 1) up_fits ∙ up) ∙ quot_neg (mag x)

    pub quot_fits : SFits w64 (quot_z (bits (bits x +ℤ pos 1)) (pos 128))
    quot_fits = rw quot (fits_neg (mag x / 128) (omega (arith, f.sfits)))

    down : bits (quot_z (bits (bits x +ℤ pos 1)) (pos 128)) -ℤ pos 1 ≡ negsuc (mag x / 128)
    down = ap (λ (z : ℤ). z -ℤ pos 1) (to_z-of_z w64 (quot_z (bits (bits x +ℤ pos 1)) (pos 128)) quot_fits ∙ quot) ∙ down_neg (mag x / 128)

    pub down_fits : SFits w64 (bits (quot_z (bits (bits x +ℤ pos 1)) (pos 128)) -ℤ pos 1)
    down_fits = rw down (record { sfits = omega (arith, f.sfits) })

    pub floor_neg : bits (bits (quot_z (bits (bits x +ℤ pos 1)) (pos 128)) -ℤ pos 1) ≡ over128 x
    unfolding over128
    floor_neg = to_z-of_z w64 (bits (quot_z (bits (bits x +ℤ pos 1)) (pos 128)) -ℤ pos 1) down_fits ∙ down ∙ sym (ap over128 is_neg)

  -- from zero on the quotient rounds down by itself
  module _ (t : lt_z (bits x) (pos 0) ≡ false) where
    is_pos : x ≡ pos (mag x)
    is_pos = go x (rw (to_z-of_z w64 x f) at t)
      where
        go : (z : ℤ) → lt_z z (pos 0) ≡ false → z ≡ pos (mag z)
        go (pos n) e = refl
        go (negsuc n) e = let z : ◌≡◌ {A = ℕ} 0 1 = cc in absurd (omega arith)

    quot_up : quot_z (bits x) (pos 128) ≡ pos (mag x / 128)
    quot_up = ap (λ (z : ℤ). quot_z z (pos 128)) (to_z-of_z w64 x f ∙ is_pos)

    pub quot_up_fits : SFits w64 (quot_z (bits x) (pos 128))
    quot_up_fits = rw quot_up (record { sfits = omega (arith, f.sfits) })

    pub floor_pos : bits (quot_z (bits x) (pos 128)) ≡ over128 x
    unfolding over128
    floor_pos = to_z-of_z w64 (quot_z (bits x) (pos 128)) quot_up_fits ∙ quot_up ∙ sym (ap over128 is_pos)
