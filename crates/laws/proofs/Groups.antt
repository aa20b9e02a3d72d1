-- Laws of numbers in groups, one group at a time, and what a number that was read is bounded by.
use Rattle.std.specs.Prelude.{if◌then◌else◌}
use Prim.Native.Nat.{ℕ, zero, suc, ◌+◌, ◌-◌, ◌*◌, ◌/◌, ◌%◌, ◌^◌, ◌≤◌, ◌<◌}
use mathlib.Core.Path.{◌≡◌, refl, sym, ◌∙◌}
use mathlib.Core.List.{[], ◌∷◌}
use mathlib.Core.Bool.{Bool, true, false}
use lib.ListN.{length, get_or}
use lib.IntN.{ℤ, pos, negsuc}
use lib.Signed.{mag}
use borrow.Author.Tests.{lt-ltb, le-ltb, ltb-false}
use native.Mathlib.Omega.{arith}
use native.Mathlib.Decide.{dec_lt}
use native.Mathlib.Nat.{mul_assoc, pow-suc, div-lt_iff_lt-mul}
use Rattle.definition.specs.Syntax.{Bytes}
use Rattle.definition.specs.Reader.{Step, got, fault, byte}
use Rattle.definition.specs.Token.{needed, groups, u32}
use Rattle.definition.specs.Binary.{unsigned, low7, over128, fits7, signed}
use Rattle.laws.proofs.Readers.{byte_in, byte_out}

-- ## Reading

module _ (bound scale value : ℕ) (s : Bytes) (at : ℕ) where
  -- no byte is left
  pub groups-fault : (left : ℕ) {n : ℕ} → 0 < left → byte s at ≡ fault n → groups left bound scale value s at ≡ fault n
  unfolding groups
  groups-fault zero h e = absurd (omega arith)
  groups-fault (suc left) h e = rw e

  -- the group passes the bound
  pub groups_wide : (left : ℕ) {b next : ℕ} → 0 < left → byte s at ≡ got b next → bound ≤ value + b % 128 * scale
      → groups left bound scale value s at ≡ fault 3
  unfolding groups
  groups_wide zero h e w = absurd (omega arith)
  groups_wide (suc left) h e w = rw (e, le-ltb _ _ w)

  -- the number's last group
  pub groups_last : (left : ℕ) {b next : ℕ} → 0 < left → byte s at ≡ got b next → value + b % 128 * scale < bound → b < 128 → needed scale b ≡ true
      → groups left bound scale value s at ≡ got (value + b % 128 * scale) next
  unfolding groups
  groups_last zero h e w l n = absurd (omega arith)
  groups_last (suc left) h e w l n = rw (e, lt-ltb _ _ w, lt-ltb _ _ l, n)

  -- a last group that could be left out
  pub groups_padded : (left : ℕ) {b next : ℕ} → 0 < left → byte s at ≡ got b next → value + b % 128 * scale < bound → b < 128 → needed scale b ≡ false
      → groups left bound scale value s at ≡ fault 19
  unfolding groups
  groups_padded zero h e w l n = absurd (omega arith)
  groups_padded (suc left) h e w l n = rw (e, lt-ltb _ _ w, lt-ltb _ _ l, n)

  -- a last group, whichever it is
  end_by : (left : ℕ) {b next : ℕ} → 0 < left → byte s at ≡ got b next → value + b % 128 * scale < bound → b < 128 → (t : Bool) → needed scale b ≡ t
      → groups left bound scale value s at ≡ if t then got (value + b % 128 * scale) next else fault 19
  end_by left h e w l true n = groups_last left h e w l n
  end_by left h e w l false n = groups_padded left h e w l n

  pub groups_end : (left : ℕ) {b next : ℕ} → 0 < left → byte s at ≡ got b next → value + b % 128 * scale < bound → b < 128
      → groups left bound scale value s at ≡ if needed scale b then got (value + b % 128 * scale) next else fault 19
  groups_end left {b} h e w l = end_by left h e w l (needed scale b) refl

  -- a group that another one follows
  pub groups-more : (left : ℕ) {b next : ℕ} → 0 < left → byte s at ≡ got b next → value + b % 128 * scale < bound → 128 ≤ b
      → groups left bound scale value s at ≡ groups (left - 1) bound (scale * 128) (value + b % 128 * scale) s next
  unfolding groups
  groups-more zero h e w l = absurd (omega arith)
  groups-more (suc left) h e w l =
      let m : (suc left - 1) ≡ left = omega arith in
      rw (e, lt-ltb _ _ w, le-ltb _ _ l, m)

  -- no group is allowed any more
  pub groups_none : (left : ℕ) → left ≡ 0 → groups left bound scale value s at ≡ fault 3
  unfolding groups
  groups_none left e = rw e

-- no step is both a refusal and a number
refused : {A : Type 0} {step : Step ℕ} {n v next : ℕ} → step ≡ fault n → step ≡ got v next → A
refused f e = let z : ◌≡◌ {A = ℕ} 0 1 = cc in absurd (omega arith)

-- the first group of a number that was read: it is the last, or others follow
pub data First (left bound scale value : ℕ) (s : Bytes) (at v next : ℕ) : Type 0 where
  ended : at < length s → get_or s at 0 < 128 → needed scale (get_or s at 0) ≡ true → v < bound → value + get_or s at 0 % 128 * scale ≡ v → at + 1 ≡ next
      → First left bound scale value s at v next
  followed : at < length s → 128 ≤ get_or s at 0 → groups left bound (scale * 128) (value + get_or s at 0 % 128 * scale) s (at + 1) ≡ got v next
      → First left bound scale value s at v next

module _ (left bound scale value : ℕ) (s : Bytes) (at : ℕ) {v next : ℕ} (e : groups (suc left) bound scale value s at ≡ got v next) where
  closes : (b : ℕ) → get_or s at 0 ≡ b → at < length s → value + b % 128 * scale < bound → b < 128 → (t : Bool) → needed scale b ≡ t
      → First left bound scale value s at v next
  closes b r h w l true n =
      let d : got (value + b % 128 * scale) (at + 1) ≡ got v next = sym (groups_last bound scale value s at (suc left) (omega arith) (rw r at (byte_in s at h)) w l n) ∙ e in
      let dv : value + b % 128 * scale ≡ v = cc in
      ended h (rw r l) (rw r n) (rw dv at w) (rw r dv) (cc)
  closes b r h w l false n = refused (groups_padded bound scale value s at (suc left) (omega arith) (rw r at (byte_in s at h)) w l n) e

  ends : (b : ℕ) → get_or s at 0 ≡ b → at < length s → value + b % 128 * scale < bound → Dec (b < 128) → First left bound scale value s at v next
  ends b r h w (yes l) = closes b r h w l (needed scale b) refl
  ends b r h w (no l) =
      let m : (suc left - 1) ≡ left = omega arith in
      followed h (rw r (omega arith)) (rw r (rw m at (sym (groups-more bound scale value s at (suc left) (omega arith) (rw r at (byte_in s at h)) w (omega arith)) ∙ e)))

  fits : (b : ℕ) → get_or s at 0 ≡ b → at < length s → Dec (value + b % 128 * scale < bound) → First left bound scale value s at v next
  fits b r h (yes w) = ends b r h w (dec_lt b 128)
  fits b r h (no w) = refused (groups_wide bound scale value s at (suc left) (omega arith) (rw r at (byte_in s at h)) (omega arith)) e

  reads : Dec (at < length s) → First left bound scale value s at v next
  reads (yes h) = fits (get_or s at 0) refl h (dec_lt (value + get_or s at 0 % 128 * scale) bound)
  reads (no h) = refused (groups-fault bound scale value s at (suc left) (omega arith) (byte_out s at (omega arith))) e

  pub first_group : First left bound scale value s at v next
  first_group = reads (dec_lt at (length s))

-- where no group is allowed none is read
pub no_group : {A : Type 0} (bound scale value : ℕ) (s : Bytes) (at : ℕ) {v next : ℕ} → groups zero bound scale value s at ≡ got v next → A
no_group bound scale value s at e = refused (groups_none bound scale value s at zero refl) e

-- what a number that was read at `at` is known to be: below the bound, and its groups end past `at` within the stream
pub record Within (bound : ℕ) (s : Bytes) (at v next : ℕ) : Type 0 where
  pub small : v < bound
  pub past : at < next
  pub inside : next ≤ length s

within : (left bound scale value : ℕ) (s : Bytes) (at : ℕ) {v next : ℕ} → First left bound scale value s at v next
    → ((now : ℕ) → groups left bound (scale * 128) now s (at + 1) ≡ got v next → Within bound s (at + 1) v next) → Within bound s at v next
within left bound scale value s at (ended h l n w dv dn) after = record { small = w; past = omega arith; inside = omega arith }
within left bound scale value s at (followed h l e) after =
    let rest = after (value + get_or s at 0 % 128 * scale) e in
    record { small = rest.small; past = omega (arith, rest.past); inside = rest.inside }

-- the bounds of a number, at any width
pub groups-within : (left bound scale value : ℕ) (s : Bytes) (at : ℕ) {v next : ℕ}
    → groups left bound scale value s at ≡ got v next → Within bound s at v next
groups-within zero bound scale value s at e = no_group bound scale value s at e
groups-within (suc left) bound scale value s at e =
    within left bound scale value s at (first_group left bound scale value s at e) (λ now d. groups-within left bound (scale * 128) now s (at + 1) d)

-- the same of a u32
pub u32-within : (s : Bytes) (at : ℕ) {v next : ℕ} → u32 s at ≡ got v next → Within (2 ^ 32) s at v next
unfolding u32
u32-within s at e = groups-within 5 (2 ^ 32) 1 0 s at e

-- ## Writing, unsigned

-- a number below 128 is its only group
pub unsigned_end : (more n : ℕ) → n < 128 → unsigned more n ≡ n ∷ []
unfolding unsigned
unsigned_end zero n h = refl
unsigned_end (suc more) n h = rw (lt-ltb _ _ h)

-- one that is not: its first group, and those of what is left
pub record OneMore (more n : ℕ) : Type 0 where
  pub less : ℕ
  pub one : more ≡ suc less
  pub first : unsigned more n ≡ (n % 128 + 128) ∷ unsigned less (n / 128)
  pub below : n / 128 < 128 ^ suc less

pub unsigned-more : (more n : ℕ) → 128 ≤ n → n < 128 ^ suc more → OneMore more n
unfolding unsigned
unsigned-more zero n h b = absurd (omega arith)
unsigned-more (suc more) n h b =
    record { less = more; one = refl; first = rw (le-ltb _ _ h); below = (div-lt_iff_lt-mul {k = 128} {x = n} {y = 128 ^ suc more} (omega arith)).1 (rw (pow-suc 128 (suc more)) at b) }

-- ## Writing, signed: `mag z` is n of both n and −(n + 1)

-- seven bits are below 128
pub low7_small : (z : ℤ) → low7 z < 128
unfolding low7
low7_small (pos n) = omega arith
low7_small (negsuc n) = omega arith

-- dividing by 128 rounding down divides `mag z`
mag_over128 : (z : ℤ) → mag (over128 z) ≡ mag z / 128
unfolding over128
mag_over128 (pos n) = refl
mag_over128 (negsuc n) = refl

-- what seven bits do not hold is 64 or more away from 0 or −1
pub fits7_false : (z : ℤ) → fits7 z ≡ false → 64 ≤ mag z
unfolding fits7
fits7_false (pos n) e = ltb-false n 64 e
fits7_false (negsuc n) e = ltb-false n 64 e

-- an integer that seven bits hold is its only group
pub signed_end : (more : ℕ) (z : ℤ) → fits7 z ≡ true → signed more z ≡ low7 z ∷ []
unfolding signed
signed_end zero z e = refl
signed_end (suc more) z e = rw e

-- one that they do not hold: its first group, and those of what is left, which is nearer to 0
pub record SignedMore (more : ℕ) (z : ℤ) : Type 0 where
  pub less : ℕ
  pub first : signed more z ≡ (low7 z + 128) ∷ signed less (over128 z)
  pub below : mag (over128 z) < 64 * 128 ^ less
  pub nearer : mag (over128 z) < mag z

pub signed-more : (more : ℕ) (z : ℤ) → fits7 z ≡ false → mag z < 64 * 128 ^ more → SignedMore more z
unfolding signed
signed-more zero z e b = absurd (omega (arith, fits7_false z e))
signed-more (suc more) z e b = record {
  less = more;
  first = rw e;
  below = rw mag_over128 ((div-lt_iff_lt-mul {k = 128} {x = mag z} {y = 64 * 128 ^ more} (omega arith)).1 (rw (mul_assoc, ← pow-suc) b));
  nearer = omega (arith, mag_over128 z, fits7_false z e);
}
