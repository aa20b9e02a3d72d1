-- How the marks of the open blocks move, for as many of them as are open.
use Rattle.std.specs.Prelude.{ℕ, ◌+◌, ◌-◌, ◌<◌, ◌%◌, Bool, ◌≡◌, eqb, if◌then◌else◌}
use mathlib.Core.List.{◌∷◌, tail}
use Rattle.definition.specs.Instructions.{elsed}
use Rattle.syntax.specs.Marks.{bits_of, marks_in}
use Rattle.syntax.specs.declared.Marks.{Marks}
use Rattle.next_record.specs.declared.marks.Innermost.{Innermost}

-- the innermost block's mark is the lowest bit
unfoldable pub innermost_of : Marks → Innermost
innermost_of m = record { may = eqb (m.low % 2) 1 }

-- marks of which it is the only one
unfoldable pub mark_of : Innermost → Marks
mark_of i = record { low = if i.may then 1 else 0; high = 0 }

-- one block more, where there is a bit for it
pub record Opened (m : Marks) (e : Bool) (r : Marks) : Type 0 where
  pub each : (k : ℕ) → k < 128 → marks_in (k + 1) (bits_of r) ≡ e ∷ marks_in k (bits_of m)

-- the innermost block has had its else
pub record Elsed (m r : Marks) : Type 0 where
  pub each : (k : ℕ) → marks_in k (bits_of r) ≡ elsed (marks_in k (bits_of m))

-- the innermost block has ended
pub record Ended (m r : Marks) : Type 0 where
  pub each : (k : ℕ) → marks_in (k - 1) (bits_of r) ≡ tail (marks_in k (bits_of m))
