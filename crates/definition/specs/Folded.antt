-- Folded records (document 02, §4; the folded instructions of the standard, 6.5): from the records of a body to its instructions in flat order,
-- each with the number of its record. A folded record means its operands from left to right and then its operator.
use Rattle.std.specs.Prelude.{ℕ, zero, suc, ◌+◌, ◌-◌, List, [], ◌∷◌, ◌++◌, leb, if◌then◌else◌}
use Rattle.definition.specs.Syntax.{Instr, Rec, field, instr, folded, body_end, Body}

-- the operators that wait for operands, innermost first, each with how many are still due and with the number of its record
abbrev pub Waiting : Type 0 → Type 0
Waiting I = List (ℕ × ℕ × Instr I)

-- an operand is complete: the operators that come right after it, each of which waited for that operand alone; and those that still wait
unfoldable pub follow : {I : Type 0} → Waiting I → Body I
follow [] = []
follow ((n, r, x) ∷ ws) = if leb n 1 then (r, x) ∷ follow ws else []

unfoldable pub still : {I : Type 0} → Waiting I → Waiting I
still [] = []
still ((n, r, x) ∷ ws) = if leb n 1 then still ws else (n - 1, r, x) ∷ ws

-- the instructions up to the body's end; `r` is the number of the next record
unfoldable pub flatten : {I : Type 0} → ℕ → Waiting I → List (Rec I) → Body I
flatten r ws [] = []
flatten r ws (field f ∷ rs) = []
flatten r ws (instr x ∷ rs) = (r, x) ∷ flatten (r + 1) ws rs
flatten r ws (folded x zero ∷ rs) = (r, x) ∷ follow ws ++ flatten (r + 1) (still ws) rs
flatten r ws (folded x (suc n) ∷ rs) = flatten (r + 1) ((suc n, r, x) ∷ ws) rs
flatten r ws (body_end ∷ rs) = []

unfoldable pub body_of : {I : Type 0} → ℕ → List (Rec I) → Body I
body_of r rs = flatten r [] rs
