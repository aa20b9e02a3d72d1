-- What the marks of the open blocks mean.
use Rattle.std.specs.Prelude.{ℕ, zero, suc, ◌+◌, ◌*◌, ◌/◌, ◌%◌, ◌^◌, [], ◌∷◌, eqb}
use Rattle.definition.specs.Instructions.{Blocks, Inside}
use Rattle.syntax.specs.declared.Marks.{Marks}

abbrev pub no_marks : Marks
no_marks = record { low = 0; high = 0 }

-- both words as one number
abbrev pub bits_of : Marks → ℕ
bits_of m = m.low + 2 ^ 64 * m.high

-- the marks of the `k` innermost blocks, from the lowest bit on
unfoldable pub marks_in : ℕ → ℕ → Blocks
marks_in zero n = []
marks_in (suc k) n = eqb (n % 2) 1 ∷ marks_in k (n / 2)

-- where `k` blocks are open and no operand is due
unfoldable pub inside_of : ℕ → Marks → Inside
inside_of k m = record { blocks = marks_in k (bits_of m); due = [] }
