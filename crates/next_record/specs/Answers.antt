-- What the code's answers and small steps mean.
use Rattle.std.specs.Prelude.{ℕ, Bool, false, eqb, ltb, if◌then◌else◌, Result, Ok, Err}
use Rattle.definition.specs.Basic.{Answer, ok, fails, refused}
use Rattle.definition.specs.Syntax.{Bytes, Identifier, Instr, opens, elses, ends, indirect, plain, Rec, field, instr, folded, body_end}
use Rattle.definition.specs.Reader.{Step, got, fault, Reader, ◌>>◌, require}
use Rattle.definition.specs.Instructions.{Operands, opening, elsing, ending, instruction, may_else}
use Rattle.syntax.specs.Marks.{inside_of}
use Rattle.syntax.specs.declared.Marks.{Marks}
use Rattle.syntax.specs.declared.Own.{Own}
use Rattle.syntax.specs.declared.Own.TheVariants as O
use Rattle.syntax.specs.declared.Source.{Source}
use Rattle.syntax.specs.declared.Source.TheVariants as S
use Rattle.syntax.specs.Fields.{field_of}
use Rattle.syntax.specs.declared.Field.{Field}
use Rattle.syntax.specs.declared.Field.TheVariants as F
use Rattle.syntax.specs.declared.Place.{Place}
use Rattle.syntax.specs.Refusals.{number}
use Rattle.syntax.specs.declared.Fault.{Fault}
use Rattle.next_record.specs.declared.record.FaultAt.{FaultAt}
use Rattle.next_record.specs.declared.record.Inside.{Inside}
use Rattle.next_record.specs.declared.record.Inside.TheVariants as N
use Rattle.next_record.specs.declared.record.Does.{Does}
use Rattle.next_record.specs.Uses.{may_use, operand_names, names_data, sort_names}
use Rattle.next_record.specs.Places.{record_past, place_after}

-- a record's fault, and its place
abbrev pub fault_at : {A : Type 0} → FaultAt Fault → Answer A × Place
fault_at e = (refused (number e.fault) e.place.rec, e.place)

-- the answer of a reader that is lent its place, and the place that it leaves, as that of a reader by value
abbrev pub with_place : {A : Type 0} → Result A Fault → Place → Result (A × Place) (FaultAt Fault)
with_place (Ok x) q = Ok (x, q)
with_place (Err f) q = Err (record { fault = f; place = q })

-- outside a body
abbrev pub outside_answer : Bytes → Result (Field × Place) (FaultAt Fault) → Answer (Rec Identifier) × Place
outside_answer s (Ok x) = (ok (field (field_of s x.0)), x.1)
outside_answer s (Err e) = fault_at e

-- what an instruction does: to the open blocks, and of one that opens whether an else may come in it; or it names a data segment
pub data Shift : Type 0 where
  stay : Shift
  name_data : Shift
  open_one : Bool → Shift
  else_one : Shift
  end_one : Shift

abbrev pub shift_of : Instr Identifier → Shift
shift_of (opens op l t) = open_one (eqb op 0x04)
shift_of (elses l) = else_one
shift_of (ends l) = end_one
shift_of (indirect x t) = stay
shift_of (plain p) = if operand_names p.operand then name_data else stay

-- what the pass keeps of a record in a body: of an instruction, whether it may use a type and what it does; of a folded one with its operands, what
-- they do
pub data Kept : Type 0 where
  a_field : Kept
  an_instr : Bool → Shift → Kept
  some_folded : Does → Kept
  an_end : Kept

abbrev pub kept_of : Rec Identifier → Kept
kept_of (field f) = a_field
kept_of (instr x) = an_instr (may_use x) (shift_of x)
kept_of (folded x n) = some_folded (record { uses = may_use x; names = names_data x })
kept_of body_end = an_end

abbrev pub kept_answer : Answer (Rec Identifier) → Answer Kept
kept_answer (ok x) = ok (kept_of x)
kept_answer (fails q) = fails q

abbrev pub kept_at : Answer (Rec Identifier) × Place → Answer Kept × Place
kept_at y = (kept_answer y.0, y.1)

abbrev pub inside_kept : Inside → Kept
inside_kept (N.On u) = an_instr u stay
inside_kept N.Data = an_instr false name_data
inside_kept (N.Opens u e) = an_instr u (open_one e)
inside_kept N.Elses = an_instr false else_one
inside_kept N.Ends = an_instr false end_one
inside_kept (N.Folded u n) = some_folded (record { uses = u; names = n })
inside_kept N.End = an_end

abbrev pub inside_answer : Result (Inside × Place) (FaultAt Fault) → Answer Kept × Place
inside_answer (Ok x) = (ok (inside_kept x.0), x.1)
inside_answer (Err e) = fault_at e

-- the same of an instruction
abbrev pub kept_instr : Place → Step (Instr Identifier) → Answer Kept × Place
kept_instr p (got x next) = (ok (kept_of (instr x)), place_after p (instr x) next)
kept_instr p (fault n) = (refused n p.rec, p)

-- a block, an else and an end where `k` blocks are open, with these marks
unfoldable pub opens_in : ℕ → ℕ → Reader (Instr Identifier)
opens_in k op = require 7 (ltb k 128) >> instruction op opening

unfoldable pub elses_in : ℕ → Marks → Reader (Instr Identifier)
elses_in k m = require 8 (may_else (inside_of k m).blocks) >> instruction 0x05 elsing

unfoldable pub ends_in : ℕ → Reader (Instr Identifier)
ends_in k = require 8 (ltb 0 k) >> instruction 0x0B ending

-- an instruction with operands, by their sort and the byte after its opcode
abbrev pub plain_inside : Operands → ℕ → Inside
plain_inside w b = if sort_names w b then N.Data else N.On false

-- something was read, or refused
unfoldable pub on_past : {A : Type 0} → Place → ℕ → ℕ → A → Result (A × Place) (FaultAt Fault)
on_past p next depth what = Ok (what, record_past p next depth)

abbrev pub refused_here : {F : Type 0} → Place → F → FaultAt F
refused_here p f = record { fault = f; place = p }

-- how deep the place after a field stands: in the body of an own function, or outside
abbrev pub own_depth : Own → ℕ
own_depth (O.Func t ls) = 1
own_depth (O.Table t) = 0
own_depth (O.Mem l) = 0
own_depth (O.Global t c) = 0

abbrev pub source_depth : Source → ℕ
source_depth (S.Own o) = own_depth o
source_depth (S.Imported n x) = 0
source_depth (S.TableOf w xs) = 0
source_depth (S.MemOf w d) = 0

abbrev pub field_depth : Field → ℕ
field_depth (F.Type i ps rs) = 0
field_depth (F.Import n i x) = 0
field_depth (F.Item i es x) = source_depth x
field_depth (F.Export n k x) = 0
field_depth (F.Start x) = 0
field_depth (F.Elem i m xs) = 0
field_depth (F.Data i m d) = 0
