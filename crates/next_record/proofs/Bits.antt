-- The marks of the open blocks: a bit each, and what moving them comes to.
use Rattle.std.specs.Prelude.{if◌then◌else◌}
use mathlib.Core.Path.{◌≡◌, refl, ap, sym, ◌∙◌}
use Prim.Native.Nat.{ℕ, zero, suc, ◌+◌, ◌-◌, ◌*◌, ◌/◌, ◌%◌, ◌^◌, ◌≤◌, ◌<◌}
use mathlib.Core.Bool.{Bool, true, false}
use mathlib.Core.List.{tail}
use lib.Dec.{eqb}
use lib.ListN.{length}
use mir.Syntax.{w64}
use mir.Val.{Fits}
use native.Mathlib.Omega.{arith}
use native.Mathlib.Nat.{mul_assoc, mul_comm, pow-suc}
use native.Mathlib.Numerals.{add-one}
use Rattle.definition.specs.Instructions.{may_else, elsed}
use Rattle.syntax.specs.Marks.{bits_of, marks_in, inside_of}
use Rattle.syntax.specs.declared.Marks.{Marks}
use Rattle.next_record.specs.declared.marks.Innermost.{Innermost}
use Rattle.next_record.specs.Marks.{mark_of, innermost_of, Opened, Elsed, Ended}

pub marks_length : (k n : ℕ) → length (marks_in k n) ≡ k
unfolding marks_in
marks_length zero n = refl
marks_length (suc k) n = ap suc (marks_length k (n / 2))

pub inside-length : (k : ℕ) (m : Marks) → length (inside_of k m).blocks ≡ k
unfolding inside_of
inside-length k m = marks_length k (bits_of m)

-- a multiple of 2 ^ j is beyond the lowest j bits
marks_low : (k j n c : ℕ) → k ≤ j → marks_in k (n + 2 ^ j * c) ≡ marks_in k n
unfolding marks_in
marks_low zero j n c h = refl
marks_low (suc k) zero n c h = absurd (omega arith)
marks_low (suc k) (suc j) n c h =
    let e : 2 ^ suc j * c ≡ 2 * (2 ^ j * c) = rw (pow-suc 2 j, mul_comm (2 ^ j) 2) (mul_assoc 2 (2 ^ j) c) in
    let a : (n + 2 ^ suc j * c) % 2 ≡ n % 2 = omega arith in
    let b : (n + 2 ^ suc j * c) / 2 ≡ n / 2 + 2 ^ j * c = omega arith in
    rw (a, b, marks_low k j (n / 2) c (omega arith))

-- ## May an else come?

pub else_outside : (m : Marks) (d : ℕ) → d < 2 → false ≡ may_else (inside_of (d - 1) m).blocks
unfolding inside_of marks_in may_else
else_outside m d h = let e : d - 1 ≡ 0 = omega arith in rw e

bit : (b : Bool) → b ≡ eqb (((if b then 1 else 0) + 2 ^ 64 * 0) % 2) 1
bit true = refl
bit false = refl

pub else_innermost : (i : Innermost) (d : ℕ) → 2 ≤ d → i.may ≡ may_else (inside_of (d - 1) (mark_of i)).blocks
unfolding inside_of marks_in may_else mark_of
else_innermost i d h = let e : d - 1 ≡ suc (d - 2) = omega arith in rw e (bit i.may)

pub innermost_is : (m : Marks) (b : Bool) → b ≡ eqb (m.low % 2) 1 → ◌≡◌ {A = Innermost} (record { may = b }) (innermost_of m)
unfolding innermost_of
innermost_is m b e = rw e

-- of the marks only the innermost's matters
pub innermost_same : (k : ℕ) (m : Marks) → may_else (inside_of k m).blocks ≡ may_else (inside_of k (mark_of (innermost_of m))).blocks
unfolding inside_of marks_in may_else mark_of innermost_of
innermost_same zero m = refl
innermost_same (suc k) m =
    let b : (m.low + 2 ^ 64 * m.high) % 2 ≡ m.low % 2 = omega arith in
    rw b (bit (eqb (m.low % 2) 1))

-- ## A block more, an else, an end

-- the lowest bit is the new block's, the others have moved up, and the highest is lost
open_bits : (m r : Marks) (may : Bool) (b : ℕ) → eqb b 1 ≡ may → b < 2 → bits_of r + 2 ^ 128 * (m.high / 2 ^ 63) ≡ 2 * bits_of m + b → Opened m may r
unfolding marks_in
open_bits m r may b t l s = record {
  each = λ k h.
      let low : (2 * bits_of m + b) % 2 ≡ b = omega arith in
      let up : (2 * bits_of m + b) / 2 ≡ bits_of m = omega arith in
      rw (add-one k) (sym (marks_low (suc k) 128 (bits_of r) (m.high / 2 ^ 63) (omega arith)) ∙ rw (s, low, up, t));
}

-- two words of 64 bits, moved up by one
words_up : (low high b : ℕ) → low % 2 ^ 63 * 2 + b + 2 ^ 64 * (high % 2 ^ 63 * 2 + low / 2 ^ 63) + 2 ^ 128 * (high / 2 ^ 63) ≡ 2 * (low + 2 ^ 64 * high) + b
words_up low high b =
    ap (λ (n : ℕ). low % 2 ^ 63 * 2 + b + 2 ^ 64 * (high % 2 ^ 63 * 2 + low / 2 ^ 63) + n) (mul_assoc (2 ^ 64) (2 ^ 64) (high / 2 ^ 63))
    ∙ go low high (low % 2 ^ 63) (low / 2 ^ 63) (high % 2 ^ 63) (2 ^ 64 * (high / 2 ^ 63)) (omega arith) (omega arith)
  where
    go : (low high a c d e : ℕ) → 2 * low ≡ 2 * a + 2 ^ 64 * c → 2 * high ≡ 2 * d + e → a * 2 + b + 2 ^ 64 * (d * 2 + c) + 2 ^ 64 * e ≡ 2 * (low + 2 ^ 64 * high) + b
    go low high a c d e f g = omega arith

module _ (m : Marks) (may : Bool) where
  pub opened_if : may ≡ true → Opened m may (record { low = m.low % 2 ^ 63 * 2 + 1; high = m.high % 2 ^ 63 * 2 + m.low / 2 ^ 63 })
  opened_if e =
      open_bits m (record { low = m.low % 2 ^ 63 * 2 + 1; high = m.high % 2 ^ 63 * 2 + m.low / 2 ^ 63 }) may 1 (sym e) (omega arith)
      (words_up m.low m.high 1)

  pub opened-other : may ≡ false → Opened m may (record { low = m.low % 2 ^ 63 * 2; high = m.high % 2 ^ 63 * 2 + m.low / 2 ^ 63 })
  opened-other e =
      let z : m.low % 2 ^ 63 * 2 + 0 ≡ m.low % 2 ^ 63 * 2 = omega arith in
      open_bits m (record { low = m.low % 2 ^ 63 * 2; high = m.high % 2 ^ 63 * 2 + m.low / 2 ^ 63 }) may 0 (sym e) (omega arith)
      (rw z at (words_up m.low m.high 0))

-- the lowest bit is cleared
after_else : (k n c : ℕ) → c ≡ n / 2 * 2 → marks_in k c ≡ elsed (marks_in k n)
unfolding marks_in elsed
after_else zero n c e = refl
after_else (suc k) n c e =
    let low : n / 2 * 2 % 2 ≡ 0 = omega arith in
    let up : n / 2 * 2 / 2 ≡ n / 2 = omega arith in
    rw (e, low, up)

-- it is dropped
after_end : (k n c : ℕ) → c ≡ n / 2 → marks_in (k - 1) c ≡ tail (marks_in k n)
unfolding marks_in
after_end zero n c e = refl
after_end (suc k) n c e = let d : suc k - 1 ≡ k = omega arith in rw (d, e)

pub elsed-low : (m : Marks) → Elsed m (record { low = m.low / 2 * 2; high = m.high })
elsed-low m = record { each = go }
  where
    go : (k : ℕ) → marks_in k (m.low / 2 * 2 + 2 ^ 64 * m.high) ≡ elsed (marks_in k (bits_of m))
    go k = after_else k (bits_of m) (m.low / 2 * 2 + 2 ^ 64 * m.high) (omega arith)

pub ended-low : (m : Marks) → Ended m (record { low = m.low / 2 + m.high % 2 * 2 ^ 63; high = m.high / 2 })
ended-low m = record { each = go }
  where
    go : (k : ℕ) → marks_in (k - 1) (m.low / 2 + m.high % 2 * 2 ^ 63 + 2 ^ 64 * (m.high / 2)) ≡ tail (marks_in k (bits_of m))
    go k = after_end k (bits_of m) (m.low / 2 + m.high % 2 * 2 ^ 63 + 2 ^ 64 * (m.high / 2)) (omega arith)

-- what they hold fits a word
pub up_fits : (low high : ℕ) → Fits w64 low → Fits w64 (high % 9223372036854775808 * 2 + low / 9223372036854775808)
up_fits low high f = let l : low < 2 ^ 64 = f.fits in record { fits = omega arith }

pub down_fits : (low high : ℕ) → Fits w64 low → Fits w64 (low / 2 + high % 2 * 9223372036854775808)
down_fits low high f = let l : low < 2 ^ 64 = f.fits in record { fits = omega arith }
