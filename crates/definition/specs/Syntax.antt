-- The abstract syntax, in three steps: what a record says (document 01); the fields of a module with nothing inline; a module whose indices
-- are numbers (the standard, chapter 2). `I` is what an identifier is: a list of bytes where a stream is read.
use Rattle.std.specs.Prelude.{ℕ, Bool, List, eqb}
use Rattle.std.proofs.Math.Option.{Option}

abbrev pub Bytes : Type 0
Bytes = List ℕ

abbrev pub Identifier : Type 0
Identifier = Bytes

-- ## The standard, 2.3: Types

-- a value type is its byte (5.3): 7F i32, 7E i64, 7D f32, 7C f64, 70 funcref, 6F externref
abbrev pub ValType : Type 0
ValType = ℕ

pub record FuncType : Type 0 where
  pub params : List ValType
  pub results : List ValType

pub record Limits : Type 0 where
  pub is64 : Bool
  pub minimum : ℕ
  pub maximum : Option ℕ

pub record TableType : Type 0 where
  pub element : ValType
  pub limits : Limits

-- `mutable` is the byte 0 or 1
pub record GlobalType : Type 0 where
  pub value : ValType
  pub mutable : ℕ

-- an external type; `T` is what says a function's type: a type use or, resolved, a type's number
pub data ExternType (T : Type 0) : Type 0 where
  func : T → ExternType T
  table : TableType → ExternType T
  mem : Limits → ExternType T
  global : GlobalType → ExternType T

-- ## The standard, 2.5: Indices

-- the index spaces of a module
pub data Space : Type 0 where
  funcs tables mems globals types elems datas : Space

-- the first four as the byte that an import or an export has for them (5.3, external types)
abbrev pub code : Space → ℕ
code funcs = 0
code tables = 1
code mems = 2
code globals = 3
code types = 4
code elems = 5
code datas = 6

abbrev pub same_space : Space → Space → Bool
same_space k j = eqb (code k) (code j)

-- document 01's index: absent, a number, or an identifier; and what de-inlining writes for it, the number of the item itself
pub data Index (I : Type 0) : Type 0 where
  absent : Index I
  number : ℕ → Index I
  named : I → Index I
  own_index : ℕ → Index I

-- a parameter or a local
pub record Local (I : Type 0) : Type 0 where
  pub id : Option I
  pub type : ValType

pub record TypeUse (I : Type 0) : Type 0 where
  pub index : Index I
  pub params : List (Local I)
  pub results : List ValType

-- ## The standard, 2.4: Instructions

-- what stands after the opcode of an instruction that has no block and no type use; an access is the exponent of its alignment, its offset
-- and its memory; `items` is what stands after FC: the second byte, and indices of items
pub data Operand (I : Type 0) : Type 0 where
  nothing : Operand I
  label : Index I → Operand I
  labels : List (Index I) → Index I → Operand I
  local : Index I → Operand I
  item : Space → Index I → Operand I
  items : ℕ → List (Space × Index I) → Operand I
  access : ℕ → ℕ → Index I → Operand I
  int32 : ℕ → Operand I
  int64 : ℕ → Operand I
  raw : Bytes → Operand I

pub record Plain (I : Type 0) : Type 0 where
  pub opcode : ℕ
  pub operand : Operand I

-- `opens` is block, loop or if, by its opcode; `indirect` is call_indirect
pub data Instr (I : Type 0) : Type 0 where
  opens : ℕ → Option I → TypeUse I → Instr I
  elses : Option I → Instr I
  ends : Option I → Instr I
  indirect : Index I → TypeUse I → Instr I
  plain : Plain I → Instr I

-- ## Records: the record stream of document 01

-- the two names of an import
pub record ImportName : Type 0 where
  pub module_name : Bytes
  pub item_name : Bytes

-- an item of one's own: form 0 of the records 03 to 06
pub data Own (I : Type 0) : Type 0 where
  own_func : TypeUse I → List (Local I) → Own I
  own_table : TableType → Own I
  own_mem : Limits → Own I
  own_global : GlobalType → Plain I → Own I

-- the forms 0, 1 and 2 of the records 03 to 06; a Bool says 64-bit
pub data Source (I : Type 0) : Type 0 where
  own : Own I → Source I
  imported : ImportName → ExternType (TypeUse I) → Source I
  table_of : Bool → List (Index I) → Source I
  mem_of : Bool → Bytes → Source I

-- a segment is passive, or active at an item and an offset
pub data Mode (X K : Type 0) : Type 0 where
  passive : Mode X K
  active : X → K → Mode X K

pub data FieldRec (I : Type 0) : Type 0 where
  type_r : Option I → FuncType → FieldRec I
  import_r : ImportName → Option I → ExternType (TypeUse I) → FieldRec I
  item_r : Option I → List Bytes → Source I → FieldRec I
  export_r : Bytes → Space → Index I → FieldRec I
  start_r : Index I → FieldRec I
  elem_r : Option I → Mode (Index I) (Plain I) → List (Index I) → FieldRec I
  data_r : Option I → Mode (Index I) (Plain I) → Bytes → FieldRec I

-- `folded` is F0 with its operator and the count of its operands, which are the records after it (document 02, §4)
pub data Rec (I : Type 0) : Type 0 where
  field : FieldRec I → Rec I
  instr : Instr I → Rec I
  folded : Instr I → ℕ → Rec I
  body_end : Rec I

-- ## Fields: a module with nothing inline and nothing folded

-- a body: its instructions in flat order, each with the number of its record
abbrev pub Body : Type 0 → Type 0
Body I = List (ℕ × Instr I)

-- an own function has its body; every other item has none
pub data Field (I : Type 0) : Type 0 where
  type_f : Option I → FuncType → Field I
  import_f : ImportName → Option I → ExternType (TypeUse I) → Field I
  own_f : Option I → Own I → Body I → Field I
  export_f : Bytes → Space → Index I → Field I
  start_f : Index I → Field I
  elem_f : Option I → Mode (Index I) (Plain I) → List (Index I) → Field I
  data_f : Option I → Mode (Index I) (Plain I) → Bytes → Field I

-- ## Items: a module whose indices are numbers

-- three sorts beside the items' plain numbers: none can stand for another
pub record LocalNo : Type 0 where
  pub local_no : ℕ

pub record TypeNo : Type 0 where
  pub type_no : ℕ

pub record Depth : Type 0 where
  pub depth : ℕ

pub data BlockType : Type 0 where
  empty : BlockType
  single : ValType → BlockType
  typed : TypeNo → BlockType

pub data Imm : Type 0 where
  no_imm : Imm
  block_imm : BlockType → Imm
  label_imm : Depth → Imm
  labels_imm : List Depth → Depth → Imm
  local_imm : LocalNo → Imm
  item_imm : ℕ → Imm
  items_imm : ℕ → List ℕ → Imm
  indirect_imm : TypeNo → ℕ → Imm
  access_imm : ℕ → ℕ → ℕ → Imm
  int32_imm : ℕ → Imm
  int64_imm : ℕ → Imm
  raw_imm : Bytes → Imm

-- an instruction, or one of those that end a block
pub record Op : Type 0 where
  pub opcode : ℕ
  pub imm : Imm

pub data Item : Type 0 where
  type_i : FuncType → Item
  import_i : ImportName → ExternType TypeNo → Item
  func_i : TypeNo → List ValType → List Op → Item
  table_i : TableType → Item
  mem_i : Limits → Item
  global_i : GlobalType → Op → Item
  export_i : Bytes → Space → ℕ → Item
  start_i : ℕ → Item
  elem_i : Mode (Option ℕ) Op → List ℕ → Item
  data_i : Mode ℕ Op → Bytes → Item
