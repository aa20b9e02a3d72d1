-- A function's entry in the code section, by the work area.
use Rattle.std.specs.Prelude.{ℕ, Ok, Err, ◌+◌, ◌≡◌, List, [], ◌++◌, length}
use Rattle.syntax.specs.Refusals.{Resolved, refused_by}
use Rattle.definition.specs.Basic.{Answer, ok, ◌>>=◌}
use Rattle.definition.specs.Syntax as Syntax
use Rattle.definition.specs.Syntax.{Bytes, Op, Item}
use Rattle.definition.specs.Token as Token
use Rattle.definition.specs.Names.{locals_of, distinct_locals, body, resolve}
use Rattle.type_table.specs.Table.{types_in}
use Rattle.definition.specs.Binary.{u, vec, run, runs, expr, sized}
use Rattle.area.specs.Layout.{LABELS, LOCALS}
use Rattle.syntax.specs.TypeUses.{list_of, use_of}
use Rattle.syntax.specs.declared.List as Code
use Rattle.syntax.specs.declared.TypeUse.{TypeUse}
use Rattle.emit.specs.Put.{past}
use Rattle.area.specs.Kept.{Kept}
use Rattle.runs.specs.Locals.{local_types}
use Rattle.binary.specs.Code.{code_of}
use Rattle.binary.specs.Emits.{Emits}
use Rattle.instr.specs.Bodies.{body_from}
use Rattle.instr.specs.Functions.{func_field}
use Rattle.scope.specs.Scope.{scope_in, locals_in}
use Rattle.scope.specs.declared.Locals.{Locals}

-- the body, resolved
unfoldable pub body_answer : Bytes → List ℕ → ℕ → ℕ → Locals → Answer (List Op)
body_answer s w r here l = body (scope_in s w) (locals_in s w l) [] (body_from 0 (r + 1) s here).body

-- locals in runs, and then the instructions
unfoldable pub code_bytes : Bytes → Code.List → List Op → Bytes
code_bytes s ls os = vec run (runs (local_types s ls.at ls.count)) ++ expr os

-- the same after its length
unfoldable pub sized_bytes : Bytes → Code.List → List Op → Bytes
sized_bytes s ls os = sized (code_bytes s ls os)

-- it is emitted, and only labels are written into the work area
pub record EmitsCode (bytes : List Op → Bytes) (a : Answer (List Op)) (w old : List ℕ) (at : ℕ) (r : Resolved ℕ) (w' new : List ℕ) : Type 0 where
  pub emits : Emits bytes a old at r new
  pub kept : Kept LABELS w w'

-- the value of an answer, and how long its bytes are
pub record Measured (bytes : List Op → Bytes) (a : Answer (List Op)) (n : ℕ) : Type 0 where
  pub value : List Op
  pub is : a ≡ ok value
  pub long : n ≡ past 0 (length (bytes value))

-- it is measured
abbrev pub MeasuredBy : (List Op → Bytes) → Answer (List Op) → Resolved ℕ → Type 0
MeasuredBy bytes a (Ok n) = Measured bytes a n
MeasuredBy bytes a (Err q) = a ≡ refused_by q

pub record MeasuresCode (bytes : List Op → Bytes) (a : Answer (List Op)) (w : List ℕ) (r : Resolved ℕ) (w' : List ℕ) : Type 0 where
  pub says : MeasuredBy bytes a r
  pub kept : Kept LABELS w w'

-- the place after them and their length, where they begin at `at`
pub record MeasuredAt (bytes : List Op → Bytes) (a : Answer (List Op)) (at r : ℕ) : Type 0 where
  pub value : List Op
  pub is : a ≡ ok value
  pub place : r ≡ past at (length (sized (bytes value)))

abbrev pub MeasuredAtBy : (List Op → Bytes) → Answer (List Op) → ℕ → Resolved ℕ → Type 0
MeasuredAtBy bytes a at (Ok r) = MeasuredAt bytes a at r
MeasuredAtBy bytes a at (Err q) = a ≡ refused_by q

pub record MeasuresSized (bytes : List Op → Bytes) (a : Answer (List Op)) (w : List ℕ) (at : ℕ) (r : Resolved ℕ) (w' : List ℕ) : Type 0 where
  pub says : MeasuredAtBy bytes a at r
  pub kept : Kept LABELS w w'

-- a number and then the code
pub record EmitsAgain (bytes : List Op → Bytes) (a : Answer (List Op)) (w old : List ℕ) (at n : ℕ) (r : Resolved ℕ) (w' new : List ℕ) : Type 0 where
  pub emits : Emits (λ os. u n ++ bytes os) a old at r new
  pub kept : Kept LABELS w w'

-- the whole entry: the locals are written too
abbrev pub AreaBy : Resolved ℕ → List ℕ → List ℕ → Type 0
AreaBy (Ok o) w w' = Kept LOCALS w w'
AreaBy (Err r) w w' = length w' ≡ length w

-- what is left once the type's number is known
unfoldable pub typed_answer : Bytes → List ℕ → ℕ → Syntax.TypeNo → TypeUse → Code.List → ℕ → Answer Item
typed_answer s w r n t ls here =
    distinct_locals (scope_in s w) r (locals_of (types_in s w) n (use_of s t) (list_of Token.param s ls)) >>= λ _.
    body (scope_in s w) (locals_of (types_in s w) n (use_of s t) (list_of Token.param s ls)) [] (body_from 0 (r + 1) s here).body >>= λ os.
    ok (Syntax.func_i n (local_types s ls.at ls.count) os)

pub record EmitsTyped (s w : List ℕ) (r : ℕ) (n : Syntax.TypeNo) (t : TypeUse) (ls : Code.List) (here : ℕ) (old : List ℕ) (at : ℕ) (q : Resolved ℕ) (w' new : List ℕ) : Type 0 where
  pub emits : Emits code_of (typed_answer s w r n t ls here) old at q new
  pub area : AreaBy q w w'

pub record EmitsFunc (s w : List ℕ) (r : ℕ) (t : TypeUse) (ls : Code.List) (here : ℕ) (old : List ℕ) (at : ℕ) (q : Resolved ℕ) (w' new : List ℕ) : Type 0 where
  pub emits : Emits code_of (resolve (scope_in s w) r (func_field s r t ls here)) old at q new
  pub area : AreaBy q w w'
