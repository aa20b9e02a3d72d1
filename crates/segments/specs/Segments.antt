-- Element and data segments: what stands before the functions and the bytes.
use Rattle.std.specs.Prelude.{Option as Optional, ℕ, [], ◌∷◌, ◌++◌, eqb, if◌then◌else◌}
use Rattle.std.proofs.Math.Option.{Option, none, some}
use Rattle.definition.specs.Basic.{Answer}
use Rattle.definition.specs.Syntax.{Bytes, Op, Mode, passive, active}
use Rattle.definition.specs.Binary.{u, expr}
use Rattle.syntax.specs.Reads.{same, maybe}
use Rattle.syntax.specs.Refusals.{Resolved, answer}

-- the table of an element segment; an absent index stays so
abbrev pub table_at : Resolved (Optional ℕ) → Answer (Option ℕ)
table_at = answer (maybe same)

-- what stands before the functions of an active segment, which begins at this offset
unfoldable pub at_table : Option ℕ → Op → Bytes
at_table none o = 0 ∷ expr (o ∷ [])
at_table (some t) o = 2 ∷ u t ++ expr (o ∷ []) ++ (0 ∷ [])

-- what stands before an element segment's functions
unfoldable pub elem_mode : Mode (Option ℕ) Op → Bytes
elem_mode passive = 1 ∷ 0 ∷ []
elem_mode (active t o) = at_table t o

-- what stands before the bytes of an active segment
unfoldable pub at_memory : ℕ → Op → Bytes
at_memory m o = (if eqb m 0 then 0 ∷ [] else 2 ∷ u m) ++ expr (o ∷ [])

-- what stands before a data segment's bytes
unfoldable pub data_mode : Mode ℕ Op → Bytes
data_mode passive = 1 ∷ []
data_mode (active m o) = at_memory m o
