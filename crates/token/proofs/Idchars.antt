-- The code's tests of an idchar: outside the range, at each byte that is none, and elsewhere.
use mathlib.Core.Path.{◌≡◌}
use mathlib.Core.Bool.{Bool, true, false}
use Prim.Native.Nat.{ℕ, ◌≤◌, ◌<◌}
use native.Mathlib.Omega.{arith}
use borrow.Author.Tests.{ne_eqb}
use Rattle.definition.specs.Token.{idchar}
use Rattle.laws.proofs.Exits.{between_in, between-low, between_high}

pub id-low : (b : ℕ) → b ≤ 0x20 → false ≡ idchar b
unfolding idchar
id-low b h = rw (between-low 0x21 0x7E b (omega arith))

pub id_high : (b : ℕ) → 0x7E < b → false ≡ idchar b
unfolding idchar
id_high b h = rw (between_high 0x21 0x7E b (omega arith) h)

-- a byte that was matched
pub id-at : (b k : ℕ) (t : Bool) → b ≡ k → t ≡ idchar k → t ≡ idchar b
id-at b k t e d = rw e d

pub id_else : (b : ℕ) → 0x20 < b → b ≤ 0x7E
    → (b ≡ 0x22 → ⊥) → (b ≡ 0x28 → ⊥) → (b ≡ 0x29 → ⊥) → (b ≡ 0x2C → ⊥) → (b ≡ 0x3B → ⊥) → (b ≡ 0x5B → ⊥) → (b ≡ 0x5D → ⊥) → (b ≡ 0x7B → ⊥) → (b ≡ 0x7D → ⊥)
    → true ≡ idchar b
unfolding idchar
id_else b l h a c d e f g i j k =
    rw (between_in 0x21 0x7E b (omega arith) h, ne_eqb b 0x22 a, ne_eqb b 0x28 c, ne_eqb b 0x29 d, ne_eqb b 0x2C e, ne_eqb b 0x3B f, ne_eqb b 0x5B g, ne_eqb b 0x5D i, ne_eqb b 0x7B j, ne_eqb b 0x7D k)

-- small letters and what stands before them, down to the bracket
pub id_letter : (b : ℕ) → 0x5E ≤ b → b ≤ 0x7A → true ≡ idchar b
id_letter b l h = id_else b (omega arith) (omega arith) (λ e. omega arith) (λ e. omega arith) (λ e. omega arith) (λ e. omega arith) (λ e. omega arith) (λ e. omega arith) (λ e. omega arith) (λ e. omega arith) (λ e. omega arith)

pub ruleset idchars = (id_letter, id-low, id_high, id-at, id_else)
