-- The running place, and what stands there.
use Rattle.std.specs.Prelude.{ℕ, zero, suc, ◌+◌, ◌-◌, length}
use Rattle.std.proofs.Math.Option.{Option, none, some}
use Rattle.definition.specs.Basic.{Answer, ok, refused}
use Rattle.definition.specs.Syntax.{Bytes, Identifier, Rec, field, instr, folded, body_end}
use Rattle.definition.specs.Reader.{Step, got, fault}
use Rattle.definition.specs.Instructions.{Inside, body_rec}
use Rattle.definition.specs.Records.{Room}
use Rattle.definition.specs.Read.{field_body, record_in}
use Rattle.laws.specs.Depths.{depth_after}
use Rattle.syntax.specs.Marks.{inside_of}
use Rattle.syntax.specs.declared.Marks.{Marks}
use Rattle.syntax.specs.declared.Place.{Place}

-- `depth` is 0 outside a body, and in one the number of open blocks and one more
abbrev pub body_of : ℕ → Marks → Option Inside
body_of zero m = none
body_of (suc k) m = some (inside_of k m)

abbrev pub depth_of : Option Inside → ℕ
depth_of none = 0
depth_of (some i) = length i.blocks + 1

-- after a record
abbrev pub depth_past : ℕ → Rec Identifier → ℕ
depth_past d (field f) = depth_of (field_body f)
depth_past d (instr x) = depth_after x (d - 1) + 1
depth_past d (folded x n) = d
depth_past d body_end = 0

-- the place that a record has moved on
unfoldable pub record_past : Place → ℕ → ℕ → Place
record_past p next depth = record { at = next; rec = p.rec + 1; depth = depth }

unfoldable pub place_after : Place → Rec Identifier → ℕ → Place
place_after p x next = record_past p next (depth_past p.depth x)

-- what was read, and the place after it; a refusal leaves the place where it was
abbrev pub moved_by : Place → Step (Rec Identifier) → Answer (Rec Identifier) × Place
moved_by p (got x next) = (ok x, place_after p x next)
moved_by p (fault n) = (refused n p.rec, p)

-- a field's record at a place, and a record of a body
unfoldable pub field_record_at : Room → Place → Bytes → Answer (Rec Identifier) × Place
field_record_at free p s = moved_by p (record_in free none s p.at)

unfoldable pub body_record_at : Place → Marks → Bytes → Answer (Rec Identifier) × Place
body_record_at p m s = moved_by p (body_rec (inside_of (p.depth - 1) m) s p.at)
