-- What comes of one record of a body.
use Rattle.std.specs.Prelude.{Ok, Err, Option, Some, None, ℕ, ◌+◌, ◌-◌, ◌≤◌, ◌<◌, ◌≡◌, List, []}
use Rattle.definition.specs.Basic.{ok}
use Rattle.definition.specs.Syntax as Syntax
use Rattle.definition.specs.Syntax.{Identifier, Op, Rec, instr, plain}
use Rattle.definition.specs.Reader.{Step, got, fault, Reader, onward, ◌>>=◌}
use Rattle.definition.specs.Token as Token
use Rattle.definition.specs.Instructions.{done, plain_of}
use Rattle.laws.specs.Depths.{depth_after}
use Rattle.definition.specs.Types.{Uses, used_at, instr_uses}
use Rattle.definition.specs.Names.{Namespace, blocks_after, instr_op}
use Rattle.definition.specs.Binary.{instruction}
use Rattle.syntax.specs.Tokens.{space_of}
use Rattle.syntax.specs.Plain.{operands_is}
use Rattle.syntax.specs.declared.Operands.{Operands}
use Rattle.syntax.specs.declared.Operands.TheVariants as W
use Rattle.syntax.specs.Refusals.{Resolved, refused_by}
use Rattle.syntax.specs.declared.Place.{Place}
use Rattle.syntax.specs.declared.Refusal.{Refusal}
use Rattle.emit.specs.Put.{Put}
use Rattle.area.specs.Layout.{LABELS}
use Rattle.area.specs.Kept.{Kept}
use Rattle.scope.specs.Scope.{scope_in, labels_in}
use Rattle.plain.specs.declared.record.After.{After}
use Rattle.plain.specs.declared.record.After.TheVariants as A
use Rattle.plain.specs.declared.record.Target.{Target}
use Rattle.plain.specs.declared.record.Target.TheVariants as G

-- ## The running place

-- a place in a body, where one block less is open than it is deep
pub record InBody (p : Place) : Type 0 where
  pub deep : 1 ≤ p.depth
  pub few : p.depth ≤ 129
  pub low : p.rec < 4096

-- the place that a record has moved on
abbrev pub past : Place → ℕ → ℕ → Place
past p next depth = record { at = next; rec = p.rec + 1; depth = depth }

-- what came of an instruction
abbrev pub turn_of : Resolved ℕ → Place → Resolved (Option (ℕ × Place))
turn_of (Ok o) p = Ok (Some (o, p))
turn_of (Err q) p = Err q

-- ## What is read

-- the record that an instruction is
abbrev pub record_of : Step (Syntax.Instr Identifier) → Step (Rec Identifier)
record_of m = onward (λ x next. got (instr x) next) m

abbrev pub plain_record : Step (Syntax.Plain Identifier) → Step (Rec Identifier)
plain_record m = record_of (onward (λ p next. got (plain p) next) m)

-- an operand that is an index
abbrev pub operand_to : Target → Syntax.Index Identifier → Syntax.Operand Identifier
operand_to G.Label = Syntax.label
operand_to G.Local = Syntax.local
operand_to (G.Item j) = Syntax.item (space_of j)

-- an instruction that has one
unfoldable pub indexed : ℕ → (Syntax.Index Identifier → Syntax.Operand Identifier) → Reader (Syntax.Plain Identifier)
indexed op f = Token.present >>= λ x. done op (f x)

-- the operands of an opcode are one index
pub record IsIndex (w : Operands) (to : Target) : Type 0 where
  pub is : (op : ℕ) → plain_of op (operands_is w) ≡ indexed op (operand_to to)

-- what stands after an opcode
unfoldable pub StandsAfter : Operands → After → Type 0
StandsAfter w (A.Index to) = IsIndex w to
StandsAfter w A.Nothing = w ≡ W.Bare
StandsAfter w A.Other = Unit {0}

-- the type that it uses
abbrev pub read_uses : ℕ → Step (Syntax.Instr Identifier) → Uses
read_uses rec (got x next) = used_at rec (instr_uses x)
read_uses rec (fault n) = []

-- ## What comes of it

-- an instruction was read and written, its block entered or left, and the place moved on
pub record Stepped (s w : List ℕ) (locals : Namespace Identifier) (k rec : ℕ) (m : Step (Rec Identifier)) (old : List ℕ) (at o : ℕ) (p : Place) (w' new : List ℕ) : Type 0 where
  pub read : Syntax.Instr Identifier
  pub op : Op
  pub reads : m ≡ got (instr read) p.at
  pub is : instr_op (scope_in s w) locals (labels_in s w k) rec read ≡ ok op
  pub put : Put old at (instruction op) o new
  pub blocks : labels_in s w' (p.depth - 1) ≡ blocks_after (labels_in s w k) read
  pub depth : p.depth ≡ depth_after read k + 1
  pub few : p.depth ≤ 129
  pub next : p.rec ≡ rec + 1
  pub kept : Kept LABELS w w'

-- no instruction is here
pub record Ended (m : Step (Rec Identifier)) (w old w' new : List ℕ) : Type 0 where
  pub none : (x : Syntax.Instr Identifier) (next : ℕ) → m ≡ got (instr x) next → ⊥
  pub area : w' ≡ w
  pub bytes : new ≡ old

-- an instruction was refused
pub record Halted (s w : List ℕ) (locals : Namespace Identifier) (k rec : ℕ) (m : Step (Rec Identifier)) (q : Refusal) (w' : List ℕ) : Type 0 where
  pub read : Syntax.Instr Identifier
  pub next : ℕ
  pub reads : m ≡ got (instr read) next
  pub says : instr_op (scope_in s w) locals (labels_in s w k) rec read ≡ refused_by q
  pub area : w' ≡ w

-- `m` is what is read where k blocks are open
unfoldable pub Turned : List ℕ → List ℕ → Namespace Identifier → ℕ → ℕ → Step (Rec Identifier) → List ℕ → ℕ → Resolved (Option (ℕ × Place)) → List ℕ → List ℕ → Type 0
Turned s w locals k rec m old at (Ok (Some (o, p))) w' new = Stepped s w locals k rec m old at o p w' new
Turned s w locals k rec m old at (Ok None) w' new = Ended m w old w' new
Turned s w locals k rec m old at (Err q) w' new = Halted s w locals k rec m q w'

-- whatever the locals are
pub record AnyLocals (s w : List ℕ) (k rec : ℕ) (m : Step (Rec Identifier)) (old : List ℕ) (at : ℕ) (r : Resolved (Option (ℕ × Place))) (w' new : List ℕ) : Type 0 where
  pub each : (locals : Namespace Identifier) → Turned s w locals k rec m old at r w' new
