-- Numbers in their shortest form. The loop of `groups_at`: what is still to be read gives what was to be read, and the value so far is below the
-- scale.
use Prim.Native.Nat.{ℕ, suc, ◌+◌, ◌-◌, ◌*◌, ◌%◌, ◌^◌, ◌≤◌, ◌<◌}
use mathlib.Core.Path.{◌≡◌, refl, sym, ◌∙◌, ap}
use mathlib.Core.Bool.{or-true}
use lib.Dec.{eqb}
use lib.ListN.{length, get_or}
use borrow.Author.Tests.{lt-ltb, ne_eqb}
use native.Mathlib.Decide.{dec_lt}
use native.Mathlib.Nat.{zero-add, one-mul, mul-one, mul_assoc, mod-eq_of_lt, mul-le-mul_left, mul-le-mul_right, pow-succ', pow-le-pow_right}
use native.Mathlib.Omega.{arith}
use mir.Syntax.{w32, w64}
use mir.Val.{Fits}
use Rattle.definition.specs.Syntax.{Bytes}
use Rattle.definition.specs.Reader.{Step, got, fault}
use Rattle.definition.specs.Token.{needed, groups}
use Rattle.laws.proofs.Readers.{byte_in, byte_out}
use Rattle.laws.proofs.Groups.{groups-fault, groups_wide, groups_last, groups_end, groups-more, groups_none, groups-within}
use Rattle.leb.specs.Width.{Width, limit}
use Rattle.syntax.specs.Numbers.{end_at}

-- ## `end_of`

module _ (scale b value next : ℕ) where
  pub end_first : scale ≡ 1 → end_at scale b value next ≡ got value next
  unfolding needed
  end_first e = rw e

  pub end_some : (b ≡ 0 → ⊥) → end_at scale b value next ≡ got value next
  unfolding needed
  end_some h = rw (lt-ltb 0 b (omega arith), or-true (eqb scale 1))

  pub end_padded : (scale ≡ 1 → ⊥) → b ≡ 0 → end_at scale b value next ≡ fault 19
  unfolding needed
  end_padded h e = rw (ne_eqb scale 1 h, e)

-- ## `groups_at`

-- `left` groups are allowed from `here` on
pub record Still (s : Bytes) (at most last left scale value here : ℕ) : Type 0 where
  pub some : 0 < left
  pub scaled : scale * 128 ^ (left - 1) ≡ 128 ^ (most - 1)
  pub small : value < scale
  pub same : groups most (limit most last) 1 0 s at ≡ groups left (limit most last) scale value s here

pub begin : (s : Bytes) (at most last : ℕ) → Width most last → Still s at most last most 1 0 at
begin s at most last w = record { some = w.some; scaled = one-mul (128 ^ (most - 1)); small = omega arith; same = refl }

-- the same by how many groups were read, the next one counted in
pub begin_at : (s : Bytes) (at most last : ℕ) → Width most last → Still s at most last (most + 1 - 1) 1 0 at
begin_at s at most last w = let e : most + 1 - 1 ≡ most = omega arith in rw e (begin s at most last w)

pub again_at : {s : Bytes} {at most last scale value here : ℕ} (i : ℕ) → Still s at most last (most + 1 - i - 1) scale value here → Still s at most last (most + 1 - (i + 1)) scale value here
again_at {most = most} i v = let e : most + 1 - (i + 1) ≡ most + 1 - i - 1 = omega arith in rw e v

-- a group adds at most 127 times the scale
next_small : (value scale b : ℕ) → value < scale → value + b % 128 * scale < scale * 128
next_small value scale b h = omega (arith, mul-le-mul_right {m = b % 128} {n = 127} scale (omega arith))

module _ {s : Bytes} {at most last left scale value here : ℕ} (v : Still s at most last left scale value here) where
  -- the stream ends
  pub cut : length s ≤ here → groups most (limit most last) 1 0 s at ≡ fault 2
  cut h = v.same ∙ groups-fault (limit most last) scale value s here left v.some (byte_out s here h)

  -- a group that is not the last one allowed: nothing can overflow
  module _ (w : Width most last) (m : 1 < left) where
    -- the next group's scale is at most the last one's
    room : scale * 128 ≤ 128 ^ (most - 1)
    room =
        let e : 128 ^ 1 ≤ 128 ^ (left - 1) = pow-le-pow_right {n = 128} (omega arith) {i = 1} {j = left - 1} (omega arith) in
        omega (arith, v.scaled, mul-le-mul_left scale e)

    -- the last group holds at least one bit
    twice : 2 * 128 ^ (most - 1) ≤ limit most last
    twice = mul-le-mul_right {m = 2} {n = last + 1} (128 ^ (most - 1)) (omega (arith, w.one))

    below : (b : ℕ) → value + b % 128 * scale < limit most last
    below b = omega (arith, next_small value scale b v.small, room, twice)

    pub mul_fits : (b : ℕ) → Fits w64 (b % 128 * scale)
    mul_fits b = record { fits = omega (arith, below b, w.fits) }

    pub sum_fits : (b : ℕ) → Fits w64 (value + b % 128 * scale)
    sum_fits b = record { fits = omega (arith, below b, w.fits) }

    pub scale_fits : Fits w64 (scale * 128)
    scale_fits = record { fits = omega (arith, room, twice, w.fits) }

    next_scaled : scale * 128 * 128 ^ (left - 1 - 1) ≡ 128 ^ (most - 1)
    next_scaled =
        let e : suc (left - 1 - 1) ≡ left - 1 = omega arith in
        mul_assoc scale 128 _ ∙ ap (λ n. scale * n) (sym (pow-succ' 128 (left - 1 - 1)) ∙ ap (λ n. 128 ^ n) e) ∙ v.scaled

    module _ (h : here < length s) where
      -- the number ends
      pub ends : {x : Step ℕ} → get_or s here 0 < 128 → end_at scale (get_or s here 0) (value + get_or s here 0 % 128 * scale) (here + 1) ≡ x
          → groups most (limit most last) 1 0 s at ≡ x
      ends l e = v.same ∙ groups_end (limit most last) scale value s here left v.some (byte_in s here h) (below _) l ∙ e

      -- another group follows
      pub again : 128 ≤ get_or s here 0 → Still s at most last (left - 1) (scale * 128) (value + get_or s here 0 % 128 * scale) (here + 1)
      again l = record {
        some = omega arith;
        scaled = next_scaled;
        small = next_small value scale _ v.small;
        same = v.same ∙ groups-more (limit most last) scale value s here left v.some (byte_in s here h) (below _) l;
      }

  -- the last group allowed
  module _ (w : Width most last) (m : left ≤ 1) where
    one_left : left ≡ 1
    one_left = omega (arith, v.some)

    scale_is : 128 ^ (most - 1) ≡ scale
    scale_is = sym v.scaled ∙ rw one_left (mul-one scale)

    -- at most `last`: the number is below the limit
    fits_last : (b : ℕ) → b ≤ last → value + b * scale < limit most last
    fits_last b h = rw scale_is (omega (arith, v.small, mul-le-mul_right {m = b + 1} {n = last + 1} scale (omega arith)))

    pub last_mul_fits : (b : ℕ) → b ≤ last → Fits w64 (b * scale)
    last_mul_fits b h = record { fits = omega (arith, fits_last b h, w.fits) }

    pub last_sum_fits : (b : ℕ) → b ≤ last → Fits w64 (value + b * scale)
    last_sum_fits b h = record { fits = omega (arith, fits_last b h, w.fits) }

    -- more than `last`: the number passes the limit
    passes_last : (b : ℕ) → last < b → limit most last ≤ value + b * scale
    passes_last b h = rw scale_is (omega (arith, mul-le-mul_right {m = last + 1} {n = b} scale (omega arith)))

    module _ (h : here < length s) where
      -- the number ends
      pub last_ends : {x : Step ℕ} → get_or s here 0 ≤ last → end_at scale (get_or s here 0) (value + get_or s here 0 * scale) (here + 1) ≡ x
          → groups most (limit most last) 1 0 s at ≡ x
      last_ends l d =
          let e : get_or s here 0 % 128 ≡ get_or s here 0 = mod-eq_of_lt (omega (arith, w.seven)) in
          v.same ∙ rw e at (groups_end (limit most last) scale value s here left v.some (byte_in s here h) (rw e (fits_last _ l)) (omega (arith, w.seven))) ∙ d

      -- more than `last` is refused: the number passes the limit, or the high bit is set
      refused : last < get_or s here 0 → Dec (get_or s here 0 < 128) → Dec (value + get_or s here 0 % 128 * scale < limit most last)
          → groups left (limit most last) scale value s here ≡ fault 3
      refused l d (no p) = groups_wide (limit most last) scale value s here left v.some (byte_in s here h) (omega arith)
      refused l (yes d) (yes p) =
          let e : get_or s here 0 % 128 ≡ get_or s here 0 = mod-eq_of_lt d in
          absurd (omega (arith, passes_last _ l, rw e at p))
      refused l (no d) (yes p) =
          groups-more (limit most last) scale value s here left v.some (byte_in s here h) p (omega arith)
          ∙ groups_none (limit most last) (scale * 128) (value + get_or s here 0 % 128 * scale) s (here + 1) (left - 1) (omega (arith, one_left))

      pub last_refused : last < get_or s here 0 → groups most (limit most last) 1 0 s at ≡ fault 3
      last_refused l = v.same ∙ refused l (dec_lt (get_or s here 0) 128) (dec_lt (value + get_or s here 0 % 128 * scale) (limit most last))

-- ## `read_u32` and `read_u64`

-- a number of one group is that group, at either width
pub one_group : (most bound : ℕ) (s : Bytes) (at : ℕ) → 0 < most → 128 ≤ bound → at < length s → get_or s at 0 < 128
    → groups most bound 1 0 s at ≡ got (get_or s at 0) (at + 1)
unfolding needed
one_group most bound s at g w h l =
    let e : 0 + get_or s at 0 % 128 * 1 ≡ get_or s at 0 = zero-add _ ∙ mul-one _ ∙ mod-eq_of_lt l in
    rw e at (groups_last bound 1 0 s at most g (byte_in s at h) (rw e (omega arith)) l refl)

-- what the loop gives at the narrower width fits it
pub narrow : (s : Bytes) (at v next : ℕ) → groups 5 (limit 5 15) 1 0 s at ≡ got v next → Fits w32 v
narrow s at v next e = record { fits = (groups-within 5 (limit 5 15) 1 0 s at e).small }
