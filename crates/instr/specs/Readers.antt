-- Readers of the definition as the code divides them, and what its answers mean.
use Rattle.std.specs.Prelude.{ℕ, ◌≡◌, Option as Optional, Some, None, eqb, ltb, if◌then◌else◌}
use Rattle.std.proofs.Math.Option.{Option, none, some}
use Rattle.definition.specs.Syntax.{Bytes, Identifier, Instr, Rec, field, instr, folded, body_end}
use Rattle.definition.specs.Reader.{Step, got, fault}
use Rattle.definition.specs.Instructions as Instructions
use Rattle.definition.specs.Instructions.{operands}
use Rattle.syntax.specs.Instructions.{form_is, instr_is}
use Rattle.syntax.specs.declared.Form.{Form}
use Rattle.syntax.specs.declared.Folding.{Folding}
use Rattle.syntax.specs.declared.BodyRec.{BodyRec}
use Rattle.syntax.specs.declared.BodyRec.TheVariants as B
use Rattle.instr.specs.Bodies.{Head, one, folding, ended, unread, fold_here}

-- the definition's ranges of opcodes from 45 on, as the code tests them
unfoldable pub high_form : ℕ → Option Instructions.Form
high_form b =
    if ltb b 0xC5 then some (operands Instructions.bare) else
    if eqb b 0xD0 then some (operands Instructions.heaptype) else
    if eqb b 0xD1 then some (operands Instructions.bare) else
    if eqb b 0xD2 then some (operands Instructions.funcidx) else
    if eqb b 0xFC then some (operands Instructions.bulk) else
    none

-- what stands in a body
abbrev pub head_is : Bytes → Optional BodyRec → Head
head_is s (Some (B.Instr i next)) = one (instr_is s i) next
head_is s (Some B.Folded) = folding
head_is s (Some (B.End next)) = ended next
head_is s None = unread

-- the count of a folded record's operands
abbrev pub count_of : Step (Rec Identifier) → Step ℕ
count_of (got (folded x n) next) = got n next
count_of (got (field f) next) = fault 0
count_of (got (instr x) next) = fault 0
count_of (got body_end next) = fault 0
count_of (fault n) = fault n

-- the parts of a folded record: its operator, by its opcode and form and the place after the opcode, then the count of its operands, and then those
pub record Parts (s : Bytes) (here op : ℕ) (form : Form) (at count next : ℕ) : Type 0 where
  pub says : Instructions.form_of op ≡ form_is form
  pub operator : Instr Identifier
  pub past : ℕ
  pub reads : Instructions.operator_of op (Instructions.form_of op) s at ≡ got operator past
  pub whole : fold_here s here ≡ got (folded operator count) next

-- one that was read before has them
unfoldable pub Parted : Bytes → ℕ → Optional Folding → Type 0
Parted s here (Some f) = Parts s here f.opcode f.form f.at f.count f.next
Parted s here None = ⊥
