-- Every index lies below its space's count (document 02, §8): said of a module's items alone. What an instruction's index names, and which
-- instruction opens or ends a block, its opcode tells by the definition's table.
use Rattle.std.specs.Prelude.{ℕ, ◌+◌, ◌-◌, ◌≤◌, ◌<◌, ◌≡◌, true, List, [], ◌∷◌, ◌++◌, length, take}
use Rattle.std.proofs.Math.Option.{Option, none, some}
use Rattle.definition.specs.Basic.{ok, concat_map, at, some_or, same_bytes}
use Rattle.definition.specs.Syntax.{Bytes, Identifier, Rec, Space, funcs, tables, mems, globals, types, elems, datas, FuncType, ExternType, func, table, mem, global}
use Rattle.definition.specs.Syntax.{Mode, passive, active, TypeNo, BlockType, empty, single, typed, Op}
use Rattle.definition.specs.Syntax.{Imm, no_imm, block_imm, label_imm, labels_imm, local_imm, item_imm, items_imm, indirect_imm, access_imm, int32_imm, int64_imm, raw_imm}
use Rattle.definition.specs.Syntax.{Item, type_i, import_i, func_i, table_i, mem_i, global_i, export_i, start_i, elem_i, data_i}
use Rattle.definition.specs.Instructions.{Operands, bare, labelidx, labelidxs, localidx, funcidx, globalidx, memidx, memarg, i32, i64, f32, f64, heaptype, bulk}
use Rattle.definition.specs.Instructions.{Form, opening, elsing, ending, calling, operands, form_of, spaces_of}
use Rattle.definition.specs.Spaces.{extern_space, count}
use Rattle.definition.specs.Names.{param_count, Scope}
use Rattle.definition.specs.Binary.{module'}
use Rattle.definition.specs.NameSection.{name_section}
use Rattle.definition.specs.Read.{read}
use Rattle.definition.specs.Deinline.{deinline}
use Rattle.definition.specs.Assemble.{scope, resolved, Maker, Outcome}

-- ## What a module has

-- the space in which an item brings one more
unfoldable pub item_brings : Item → List Space
item_brings (type_i t) = types ∷ []
item_brings (import_i n d) = extern_space d ∷ []
item_brings (func_i n ls os) = funcs ∷ []
item_brings (table_i t) = tables ∷ []
item_brings (mem_i l) = mems ∷ []
item_brings (global_i t o) = globals ∷ []
item_brings (export_i n k x) = []
item_brings (start_i x) = []
item_brings (elem_i m ns) = elems ∷ []
item_brings (data_i m d) = datas ∷ []

-- how many items of a space there are, imports and own ones
unfoldable pub count_of : Space → List Item → ℕ
count_of k is = count k (concat_map item_brings is)

-- the type that an item brings
unfoldable pub type_of : Item → List FuncType
type_of (type_i t) = t ∷ []
type_of (import_i n d) = []
type_of (func_i n ls os) = []
type_of (table_i t) = []
type_of (mem_i l) = []
type_of (global_i t o) = []
type_of (export_i n k x) = []
type_of (start_i x) = []
type_of (elem_i m ns) = []
type_of (data_i m d) = []

-- the types, in their order
unfoldable pub types_of : List Item → List FuncType
types_of is = concat_map type_of is

-- ## What an opcode tells

-- the space of the item that an instruction names by its operand, if it names one
abbrev pub operand_space : Operands → Option Space
operand_space bare = none
operand_space labelidx = none
operand_space labelidxs = none
operand_space localidx = none
operand_space funcidx = some funcs
operand_space globalidx = some globals
operand_space memidx = some mems
operand_space memarg = none
operand_space i32 = none
operand_space i64 = none
operand_space f32 = none
operand_space f64 = none
operand_space heaptype = none
operand_space bulk = none

-- the same by what stands after its opcode
abbrev pub form_space : Option Form → Option Space
form_space none = none
form_space (some opening) = none
form_space (some elsing) = none
form_space (some ending) = none
form_space (some calling) = none
form_space (some (operands w)) = operand_space w

-- how many blocks are open after an instruction, where `n` are open before it
abbrev pub open_blocks : Option Form → ℕ → ℕ
open_blocks none n = n
open_blocks (some opening) n = n + 1
open_blocks (some elsing) n = n
open_blocks (some ending) n = n - 1
open_blocks (some calling) n = n
open_blocks (some (operands w)) n = n

-- ## In range

-- every element of a list
abbrev pub Every : {A : Type 0} → (A → Type 0) → List A → Type 0
Every P [] = Unit {0}
Every P (x ∷ xs) = P x × Every P xs

module _ (is : List Item) where
  -- an item of a space
  abbrev pub Below : Space → ℕ → Type 0
  Below k n = n < count_of k is

  -- an index must have a space
  abbrev pub BelowIn : Option Space → ℕ → Type 0
  BelowIn none n = ⊥
  BelowIn (some k) n = Below k n

  -- indices, one of each space
  abbrev pub EachBelow : List Space → List ℕ → Type 0
  EachBelow [] [] = Unit {0}
  EachBelow [] (n ∷ ns) = ⊥
  EachBelow (k ∷ ks) [] = ⊥
  EachBelow (k ∷ ks) (n ∷ ns) = Below k n × EachBelow ks ns

  abbrev pub EachBelowIn : Option (List Space) → List ℕ → Type 0
  EachBelowIn none ns = ⊥
  EachBelowIn (some ks) ns = EachBelow ks ns

  abbrev pub TypeInRange : TypeNo → Type 0
  TypeInRange n = Below types n.type_no

  abbrev pub BlockInRange : BlockType → Type 0
  BlockInRange empty = Unit {0}
  BlockInRange (single t) = Unit {0}
  BlockInRange (typed n) = TypeInRange n

  -- under so many locals and open blocks; a label of as many as are open is the function's own
  abbrev pub ImmInRange : (locals blocks : ℕ) → Option Form → Imm → Type 0
  ImmInRange locals blocks form no_imm = Unit {0}
  ImmInRange locals blocks form (block_imm b) = BlockInRange b
  ImmInRange locals blocks form (label_imm d) = d.depth ≤ blocks
  ImmInRange locals blocks form (labels_imm ds d) = Every (λ x. x.depth ≤ blocks) ds × (d.depth ≤ blocks)
  ImmInRange locals blocks form (local_imm n) = n.local_no < locals
  ImmInRange locals blocks form (item_imm n) = BelowIn (form_space form) n
  ImmInRange locals blocks form (items_imm b ns) = (form ≡ some (operands bulk)) × EachBelowIn (spaces_of b) ns
  ImmInRange locals blocks form (indirect_imm y x) = TypeInRange y × Below tables x
  ImmInRange locals blocks form (access_imm e o m) = Below mems m
  ImmInRange locals blocks form (int32_imm n) = Unit {0}
  ImmInRange locals blocks form (int64_imm n) = Unit {0}
  ImmInRange locals blocks form (raw_imm bs) = Unit {0}

  abbrev pub OpInRange : (locals blocks : ℕ) → Op → Type 0
  OpInRange locals blocks o = ImmInRange locals blocks (form_of o.opcode) o.imm

  abbrev pub BodyInRange : (locals blocks : ℕ) → List Op → Type 0
  BodyInRange locals blocks [] = Unit {0}
  BodyInRange locals blocks (o ∷ os) = OpInRange locals blocks o × BodyInRange locals (open_blocks (form_of o.opcode) blocks) os

  -- a constant has no locals and no blocks
  abbrev pub ConstInRange : Op → Type 0
  ConstInRange o = OpInRange 0 0 o

  abbrev pub ExternInRange : ExternType TypeNo → Type 0
  ExternInRange (func n) = TypeInRange n
  ExternInRange (table t) = Unit {0}
  ExternInRange (mem l) = Unit {0}
  ExternInRange (global g) = Unit {0}

  -- the parameters of its type, and its own locals
  abbrev pub local_count : TypeNo → ℕ → ℕ
  local_count n own = param_count (at (types_of is) n.type_no) + own

  -- a segment is active at an item of space `k`
  abbrev pub ModeInRange : {X : Type 0} → Space → (X → ℕ) → Mode X Op → Type 0
  ModeInRange k number passive = Unit {0}
  ModeInRange k number (active x o) = Below k (number x) × ConstInRange o

  -- no table told means table 0
  abbrev pub ItemInRange : Item → Type 0
  ItemInRange (type_i t) = Unit {0}
  ItemInRange (import_i n d) = ExternInRange d
  ItemInRange (func_i n ls os) = TypeInRange n × BodyInRange (local_count n (length ls)) 0 os
  ItemInRange (table_i t) = Unit {0}
  ItemInRange (mem_i l) = Unit {0}
  ItemInRange (global_i t o) = ConstInRange o
  ItemInRange (export_i n k x) = Below k x
  ItemInRange (start_i x) = Below funcs x
  ItemInRange (elem_i m ns) = ModeInRange tables (some_or 0) m × Every (Below funcs) ns
  ItemInRange (data_i m d) = ModeInRange mems (λ x. x) m

-- every index of every item
abbrev pub InRange : List Item → Type 0
InRange is = Every (ItemInRange is) is

-- ## What a strict call writes

-- what stands after the module of some records: nothing, or their name section (document 02, §1)
abbrev pub After : Type 0
After = List (Rec Identifier) → Bytes

abbrev pub no_names : After
no_names rs = []

abbrev pub NamesOf : After → Type 0
NamesOf names = (rs : List (Rec Identifier)) (Γ : Scope Identifier) → scope true same_bytes (deinline rs) ≡ ok Γ → name_section Γ (deinline rs) ≡ names rs

-- the module of the items that the records resolve to, and after it `names`: and the items are in range
pub record WrittenInRange (names : After) (rs : List (Rec Identifier)) (m : Bytes) : Type 0 where
  pub items : List Item
  pub resolves : resolved true same_bytes rs ≡ ok items
  pub bytes : m ≡ module' items ++ names rs
  pub in_range : InRange items

-- whatever a maker writes of the records of a stream: what each strict call has to show
abbrev pub WritesInRange : After → Maker → Type 0
WritesInRange names make =
    (s : Bytes) (rs : List (Rec Identifier)) → read s ≡ ok rs → (room : ℕ) (m : Bytes) → make room rs ≡ ok m → WrittenInRange names rs m

-- the stream was read, and what is written at the output's start is in range
pub record CallInRange (names : After) (s : Bytes) (o : Outcome) : Type 0 where
  pub records : List (Rec Identifier)
  pub reads : read s ≡ ok records
  pub written : WrittenInRange names records (take o.written o.output)
