-- The running place in a body.
use Prim.Native.Nat.{ℕ, ◌+◌, ◌<◌}
use native.Mathlib.Omega.{arith}
use Rattle.syntax.specs.declared.Place.{Place}
use Rattle.plain.specs.Turns.{InBody}
use Rattle.code.specs.Body.{Within}

-- after the opcode
pub in_place : (p : Place) (a : ℕ) → InBody p → InBody (record { at = a; rec = p.rec; depth = p.depth })
in_place p a v = record { deep = v.deep; few = v.few; low = v.low }

-- where there may be no record more
pub in_within : (p : Place) → InBody p → Within p
in_within p v = record { deep = v.deep; few = v.few; low = omega (arith, v.low) }

pub within-body : (p : Place) → Within p → p.rec < 4096 → InBody p
within-body p v low = record { deep = v.deep; few = v.few; low = low }

-- where the first operand of a folded record may stand
pub within-past : (p : Place) (next : ℕ) → Within p → p.rec < 4096 → Within (record { at = next; rec = p.rec + 1; depth = p.depth })
within-past p next v low = record { deep = v.deep; few = v.few; low = omega arith }
