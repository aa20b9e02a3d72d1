-- One spelling for each number (document 02, §5): what is written of a number is read as that number, and what is read as it is what would
-- be written. So two spellings of one number are the same bytes.
use Prim.Native.Nat.{ℕ, zero, suc, ◌+◌, ◌-◌, ◌*◌, ◌/◌, ◌%◌, ◌^◌, ◌≤◌, ◌<◌}
use mathlib.Core.Path.{◌≡◌, refl, sym, ◌∙◌, ap, ap₂}
use mathlib.Core.List.{[], ◌∷◌, ◌++◌}
use mathlib.Core.Bool.{true, or-true}
use lib.Dec.{eqb}
use lib.ListN.{length, get_or, take, drop}
use lib.Seq.{drop-cons}
use borrow.Author.Tests.{lt-ltb, le-ltb, ltb-true, ne_eqb}
use native.Mathlib.Omega.{arith}
use native.Mathlib.Decide.{dec_lt}
use native.Mathlib.Nat.{mul_assoc, add-mul, div-add-mod', mul_comm, mul-le-mul_right, mul-one, zero-add, mod-eq_of_lt, div-lt_iff_lt-mul, pow-suc, pow-le-pow_right}
use native.Mathlib.Numerals.{add-one}
use Rattle.definition.specs.Syntax.{Bytes}
use Rattle.definition.specs.Reader.{got, byte}
use Rattle.definition.specs.Token.{needed, groups, u32, u64}
use Rattle.definition.specs.Binary.{unsigned, u}
use Rattle.laws.proofs.Readers.{byte_in}
use Rattle.laws.proofs.Groups.{groups_last, groups-more, First, ended, followed, first_group, no_group, unsigned_end, unsigned-more, OneMore}

-- ## What is written is read

-- a stream in which some bytes stand at a place: the first of them, and the rest one place on
record Here (s : Bytes) (at b : ℕ) (bs : Bytes) : Type 0 where
  inside : at < length s
  is : get_or s at 0 ≡ b
  rest : drop (at + 1) s ≡ bs

here : (s : Bytes) (at : ℕ) {b : ℕ} {bs : Bytes} → drop at s ≡ b ∷ bs → Here s at b bs
here [] zero e = let z : ◌≡◌ {A = ℕ} 0 1 = cc in absurd (omega arith)
here [] (suc at) e = let z : ◌≡◌ {A = ℕ} 0 1 = cc in absurd (omega arith)
here (x ∷ s) zero e = record { inside = omega arith; is = cc; rest = cc }
here (x ∷ s) (suc at) e =
    let h = here s at e in
    let m : suc at + 1 ≡ suc (at + 1) = omega arith in
    record { inside = omega (arith, h.inside); is = h.is; rest = rw m h.rest }

-- a number is its low group and 128 times the others
split : (n scale : ℕ) → n % 128 * scale + n / 128 * (scale * 128) ≡ n * scale
split n scale =
    let e : n / 128 * (scale * 128) ≡ n / 128 * 128 * scale = ap (λ (k : ℕ). n / 128 * k) (mul_comm scale 128) ∙ sym (mul_assoc (n / 128) 128 scale) in
    let d : (n / 128 * 128 + n % 128) * scale ≡ n * scale = ap (λ (k : ℕ). k * scale) (div-add-mod' n 128) in
    omega (arith, e, d, add-mul (n / 128 * 128) (n % 128) scale)

-- a number that is not 0 is needed at any place
needed-some : (scale n : ℕ) → 0 < n → needed scale n ≡ true
unfolding needed
needed-some scale n h = rw (lt-ltb _ _ h) (or-true (eqb scale 1))

module _ (left bound scale value : ℕ) (s : Bytes) (at : ℕ) {bs : Bytes} where
  -- the last group
  reads_last : (n : ℕ) → n < 128 → value + n * scale < bound → needed scale n ≡ true → Here s at n bs
      → groups (suc left) bound scale value s at ≡ got (value + n * scale) (at + 1)
  reads_last n l b k h =
      let m : n % 128 ≡ n = mod-eq_of_lt l in
      rw m at (groups_last bound scale value s at (suc left) (omega arith) (rw h.is at (byte_in s at h.inside)) (rw m b) l k)

  -- one that others follow
  reads_more : (m : ℕ) → m < 128 → value + m * scale < bound → Here s at (m + 128) bs
      → groups (suc left) bound scale value s at ≡ groups left bound (scale * 128) (value + m * scale) s (at + 1)
  reads_more m l b h =
      let e : (m + 128) % 128 ≡ m = omega arith in
      let d : (suc left - 1) ≡ left = omega arith in
      rw (e, d) at (groups-more bound scale value s at (suc left) (omega arith) (rw h.is at (byte_in s at h.inside)) (rw e b) (omega arith))

reads_end : (left more bound scale value n : ℕ) (s : Bytes) (at : ℕ) (rest : Bytes) → value + n * scale < bound → needed scale n ≡ true
    → drop at s ≡ unsigned more n ++ rest → n < 128
    → groups (suc left) bound scale value s at ≡ got (value + n * scale) (at + length (unsigned more n))
reads_end left more bound scale value n s at rest b k e p =
    rw (unsigned_end more n p) (reads_last left bound scale value s at n p b k (here s at (rw (unsigned_end more n p) at e)))

-- the groups of `n` at a place, where `left` + 1 groups are allowed and enough, are read to their end
reads : (left more bound scale value n : ℕ) (s : Bytes) (at : ℕ) (rest : Bytes) → left ≤ more → n < 128 ^ suc left → value + n * scale < bound
    → needed scale n ≡ true → drop at s ≡ unsigned more n ++ rest → Dec (n < 128)
    → groups (suc left) bound scale value s at ≡ got (value + n * scale) (at + length (unsigned more n))
reads zero more bound scale value n s at rest l h b k e (yes p) = reads_end zero more bound scale value n s at rest b k e p
reads zero more bound scale value n s at rest l h b k e (no p) = absurd (omega arith)
reads (suc left) more bound scale value n s at rest l h b k e (yes p) = reads_end (suc left) more bound scale value n s at rest b k e p
reads (suc left) more bound scale value n s at rest l h b k e (no p) =
    let m : OneMore more n = unsigned-more more n (omega arith) (omega (arith, pow-le-pow_right {n = 128} (omega arith) {i = suc (suc left)} {j = suc more} (omega arith))) in
    let q : n / 128 < 128 ^ suc left = (div-lt_iff_lt-mul {k = 128} (omega arith)).1 (rw (pow-suc 128 (suc left)) at h) in
    let f : Here s at (n % 128 + 128) (unsigned m.less (n / 128) ++ rest) = here s at (rw m.first at e) in
    let v : value + n % 128 * scale + n / 128 * (scale * 128) ≡ value + n * scale = omega (arith, split n scale) in
    let w : at + 1 + length (unsigned m.less (n / 128)) ≡ at + length (unsigned more n) = omega (arith, ap length m.first) in
    reads_more (suc left) bound scale value s at (n % 128) (omega arith) (omega arith) f
    ∙ reads left m.less bound (scale * 128) (value + n % 128 * scale) (n / 128) s (at + 1) rest (omega (arith, m.one)) q (omega arith)
    (needed-some (scale * 128) (n / 128) (omega arith)) f.rest (dec_lt (n / 128) 128)
    ∙ ap₂ got v w

-- what is written of a number is read as that number, at either width, wherever it stands
pub u32-reads : (n : ℕ) (s : Bytes) (at : ℕ) (rest : Bytes) → n < 2 ^ 32 → drop at s ≡ u n ++ rest → u32 s at ≡ got n (at + length (u n))
unfolding u32 u needed
u32-reads n s at rest h e = rw (mul-one, zero-add) at (reads 4 9 (2 ^ 32) 1 0 n s at rest (omega arith) (omega arith) (omega arith) refl e (dec_lt n 128))

pub u64-reads : (n : ℕ) (s : Bytes) (at : ℕ) (rest : Bytes) → n < 2 ^ 64 → drop at s ≡ u n ++ rest → u64 s at ≡ got n (at + length (u n))
unfolding u64 u needed
u64-reads n s at rest h e = rw (mul-one, zero-add) at (reads 9 9 (2 ^ 64) 1 0 n s at rest (omega arith) (omega arith) (omega arith) refl e (dec_lt n 128))

-- ## What is read is what would be written

-- the bytes from a place to the next
abbrev pub spelling : Bytes → ℕ → ℕ → Bytes
spelling s at next = take (next - at) (drop at s)

-- each of them is a byte
pub record Octets (s : Bytes) : Type 0 where
  pub each : (i : ℕ) → get_or s i 0 < 256

spelling_cons : (s : Bytes) (at next : ℕ) → at < length s → at + 1 ≤ next → spelling s at next ≡ get_or s at 0 ∷ spelling s (at + 1) next
spelling_cons s at next h l =
    let m : next - at ≡ suc (next - (at + 1)) = omega arith in
    rw (drop-cons s at 0 h, m, add-one at)

-- groups that were read: the number that they say, and that they are its groups
record Spelt (left scale value : ℕ) (s : Bytes) (at v next : ℕ) : Type 0 where
  rest : ℕ
  sum : value + rest * scale ≡ v
  bytes : (more : ℕ) → left ≤ suc more → spelling s at next ≡ unsigned more rest
  some : 1 < scale → 0 < rest
  past : at < next
  room : 0 < left

-- a last group that is not the first is not 0
not_zero : (scale b : ℕ) → needed scale b ≡ true → 1 < scale → 0 < b
unfolding needed
not_zero scale b e h = ltb-true 0 b (rw (ne_eqb scale 1 (λ d. omega arith)) at e)

-- a number of more than one group, by its low group and the others
low_group : (more n m : ℕ) → 0 < n → m < 128 → unsigned (suc more) (n * 128 + m) ≡ (m + 128) ∷ unsigned more n
unfolding unsigned
low_group more n m h l =
    let a : (n * 128 + m) % 128 ≡ m = omega arith in
    let b : (n * 128 + m) / 128 ≡ n = omega arith in
    rw (le-ltb (n * 128 + m) 128 (omega arith), a, b)

module _ (left scale value : ℕ) (s : Bytes) (at : ℕ) {v next : ℕ} (h : at < length s) where
  spelt_last : get_or s at 0 < 128 → needed scale (get_or s at 0) ≡ true → value + get_or s at 0 % 128 * scale ≡ v → at + 1 ≡ next
      → Spelt (suc left) scale value s at v next
  spelt_last l n dv dn =
      let one : next - at ≡ 1 = omega arith in
      record {
        rest = get_or s at 0;
        sum = rw (mod-eq_of_lt l) at dv;
        bytes = λ more _. rw (drop-cons s at 0 h, one, unsigned_end more (get_or s at 0) l);
        some = not_zero scale (get_or s at 0) n;
        past = omega arith;
        room = omega arith;
      }

  module _ (o : Octets s) (l : 128 ≤ get_or s at 0) (r : Spelt left (scale * 128) (value + get_or s at 0 % 128 * scale) s (at + 1) v next) (p : 0 < r.rest) where
    spelt_bytes : (more : ℕ) → left ≤ more → spelling s at next ≡ unsigned more (r.rest * 128 + get_or s at 0 % 128)
    spelt_bytes zero q = absurd (omega (arith, r.room))
    spelt_bytes (suc more) q =
        let b : get_or s at 0 % 128 + 128 ≡ get_or s at 0 = omega (arith, o.each at) in
        spelling_cons s at next h (omega (arith, r.past))
        ∙ sym (low_group more r.rest (get_or s at 0 % 128) p (omega arith) ∙ rw (b, r.bytes more q) refl)

    spelt_more : Spelt (suc left) scale value s at v next
    spelt_more =
        let a : (r.rest * 128 + get_or s at 0 % 128) % 128 ≡ get_or s at 0 % 128 = omega arith in
        let b : (r.rest * 128 + get_or s at 0 % 128) / 128 ≡ r.rest = omega arith in
        record {
          rest = r.rest * 128 + get_or s at 0 % 128;
          sum = omega (arith, r.sum, rw (a, b) at (split (r.rest * 128 + get_or s at 0 % 128) scale));
          bytes = λ more q. spelt_bytes more (omega arith);
          some = λ _. omega arith;
          past = omega (arith, r.past);
          room = omega arith;
        }

spelt_by : (left bound scale value : ℕ) (s : Bytes) (at : ℕ) {v next : ℕ} → 0 < scale → Octets s → First left bound scale value s at v next
    → ((now : ℕ) → groups left bound (scale * 128) now s (at + 1) ≡ got v next → Spelt left (scale * 128) now s (at + 1) v next)
    → Spelt (suc left) scale value s at v next
spelt_by left bound scale value s at p o (ended h l n w dv dn) after = spelt_last left scale value s at h l n dv dn
spelt_by left bound scale value s at p o (followed h l e) after =
    let r = after (value + get_or s at 0 % 128 * scale) e in
    spelt_more left scale value s at h o l r (r.some (omega arith))

spelt : (left bound scale value : ℕ) (s : Bytes) (at : ℕ) {v next : ℕ} → 0 < scale → Octets s → groups left bound scale value s at ≡ got v next
    → Spelt left scale value s at v next
spelt zero bound scale value s at p o e = no_group bound scale value s at e
spelt (suc left) bound scale value s at p o e =
    spelt_by left bound scale value s at p o (first_group left bound scale value s at e) (λ now d. spelt left bound (scale * 128) now s (at + 1) (omega arith) o d)

-- what is read as a number is what would be written of it, at either width
pub u32_spelling : (s : Bytes) (at : ℕ) {v next : ℕ} → Octets s → u32 s at ≡ got v next → spelling s at next ≡ u v
unfolding u32 u
u32_spelling s at o e =
    let r = spelt 5 (2 ^ 32) 1 0 s at (omega arith) o e in
    r.bytes 9 (omega arith) ∙ ap (unsigned 9) (omega (arith, r.sum))

pub u64_spelling : (s : Bytes) (at : ℕ) {v next : ℕ} → Octets s → u64 s at ≡ got v next → spelling s at next ≡ u v
unfolding u64 u
u64_spelling s at o e =
    let r = spelt 10 (2 ^ 64) 1 0 s at (omega arith) o e in
    r.bytes 9 (omega arith) ∙ ap (unsigned 9) (omega (arith, r.sum))

-- so two spellings that are read as one number are the same bytes
module _ (s t : Bytes) (at here : ℕ) {v next after : ℕ} (o : Octets s) (p : Octets t) where
  pub u32-one_spelling : u32 s at ≡ got v next → u32 t here ≡ got v after → spelling s at next ≡ spelling t here after
  u32-one_spelling e f = u32_spelling s at o e ∙ sym (u32_spelling t here p f)

  pub u64-one_spelling : u64 s at ≡ got v next → u64 t here ≡ got v after → spelling s at next ≡ spelling t here after
  u64-one_spelling e f = u64_spelling s at o e ∙ sym (u64_spelling t here p f)

-- ## A number below 128

-- groups after the first add at least their scale
adds : (left bound scale value : ℕ) (s : Bytes) (at : ℕ) {v next : ℕ} → 1 < scale → First left bound scale value s at v next
    → ((now : ℕ) → groups left bound (scale * 128) now s (at + 1) ≡ got v next → now + scale * 128 ≤ v) → value + scale ≤ v
adds left bound scale value s at p (ended h l n w dv dn) after =
    let b : 0 < get_or s at 0 = not_zero scale (get_or s at 0) n p in
    omega (arith, rw (mod-eq_of_lt l) at dv, mul-le-mul_right {m = 1} {n = get_or s at 0} scale b)
adds left bound scale value s at p (followed h l e) after = omega (arith, after _ e)

groups_add : (left bound scale value : ℕ) (s : Bytes) (at : ℕ) {v next : ℕ} → 1 < scale → groups left bound scale value s at ≡ got v next → value + scale ≤ v
groups_add zero bound scale value s at p e = no_group bound scale value s at e
groups_add (suc left) bound scale value s at p e =
    adds left bound scale value s at p (first_group left bound scale value s at e) (λ now d. groups_add left bound (scale * 128) now s (at + 1) (omega arith) d)

-- it is one byte
pub u32-byte : (s : Bytes) (at : ℕ) {v next : ℕ} → v < 128 → u32 s at ≡ got v next → byte s at ≡ got v next
unfolding u32
u32-byte s at {v} {next} l e = go (first_group 4 (2 ^ 32) 1 0 s at e)
  where
    go : First 4 (2 ^ 32) 1 0 s at v next → byte s at ≡ got v next
    go (ended h b n w dv dn) = byte_in s at h ∙ ap₂ got (sym (mod-eq_of_lt b) ∙ omega arith) dn
    go (followed h b d) = absurd (omega (arith, groups_add 4 (2 ^ 32) 128 _ s (at + 1) (omega arith) d))
