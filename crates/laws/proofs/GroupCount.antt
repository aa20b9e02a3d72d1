-- How many groups a number takes, as one rule (document 02, §2): its significant bits over seven, rounded up, and one group for zero.
use Prim.Native.Nat.{ℕ, zero, suc, ◌+◌, ◌-◌, ◌*◌, ◌/◌, ◌^◌, ◌≤◌, ◌<◌}
use mathlib.Core.Path.{◌≡◌, refl, ◌∙◌, ap}
use lib.Count.{count_leading_zeros, leading_top}
use lib.ListN.{length}
use lib.Pow.{pow-add, pow_mono}
use borrow.Author.Tests.{lt-ltb, le-ltb}
use native.Mathlib.Omega.{arith}
use native.Mathlib.Decide.{dec_lt}
use native.Mathlib.Nat.{div-lt_iff_lt-mul, le-div_iff_mul-le}
use Rattle.definition.specs.Binary.{unsigned, u}

-- the 64 bits of a number but for the zeros that lead them
abbrev pub significant : ℕ → ℕ
significant n = 64 - count_leading_zeros 64 n

-- seven of them to a group, rounded up; zero has none, and takes a group
abbrev pub groups_of : ℕ → ℕ
groups_of zero = 1
groups_of (suc n) = (significant (suc n) + 6) / 7

-- one group, or one more than what is left after seven bits
one_more : (more n j : ℕ) → 2 ^ j ≤ n → n < 2 ^ suc j
    → (7 ≤ j → 2 ^ (j - 7) ≤ n / 128 → n / 128 < 2 ^ suc (j - 7) → length (unsigned more (n / 128)) ≡ (suc (j - 7) + 6) / 7)
    → Dec (j < 7) → length (unsigned (suc more) n) ≡ (suc j + 6) / 7
unfolding unsigned
one_more more n j l h rest (yes b) =
    let small : n < 128 = omega (arith, pow_mono {i = suc j} {j = 7} (omega arith)) in
    rw (lt-ltb _ _ small) (omega arith)
one_more more n j l h rest (no b) =
    let low : 2 ^ j ≡ 2 ^ (j - 7) * 128 = ap (λ (k : ℕ). 2 ^ k) (omega arith) ∙ pow-add 2 (j - 7) 7 in
    let high : 2 ^ suc j ≡ 2 ^ suc (j - 7) * 128 = ap (λ (k : ℕ). 2 ^ k) (omega arith) ∙ pow-add 2 (suc (j - 7)) 7 in
    let large : 128 ≤ n = omega (arith, pow_mono {i = 7} {j = j} (omega arith)) in
    let r = rest (omega arith) ((le-div_iff_mul-le {k = 128} (omega arith)).1 (omega arith)) ((div-lt_iff_lt-mul {k = 128} (omega arith)).1 (omega arith)) in
    rw (le-ltb _ _ large) (omega (arith, r))

-- a number whose highest bit stands at j, where `more` + 1 groups have room for it
length_by : (more n j : ℕ) → j < 7 * suc more → 2 ^ j ≤ n → n < 2 ^ suc j → length (unsigned more n) ≡ (suc j + 6) / 7
unfolding unsigned
length_by zero n j m l h = omega arith
length_by (suc more) n j m l h = one_more more n j l h (λ b p q. length_by more (n / 128) (j - 7) (omega arith) p q) (dec_lt j 7)

-- the rule: so many groups are written, of every number of 64 bits
pub group_rule : (n : ℕ) → n < 2 ^ 64 → length (u n) ≡ groups_of n
unfolding u unsigned
group_rule zero h = refl
group_rule (suc n) h =
    let t = leading_top 64 (suc n) (omega arith) h in
    length_by 9 (suc n) t.0 (omega (arith, t.1)) t.2 t.3 ∙ ap (λ (k : ℕ). (k + 6) / 7) (omega (arith, t.1))
