-- Names (the crate's names.rs; the identifier contexts of the standard, 6.1; refusals 13 to 17 and 20): items are registered, and every index
-- becomes a number. `eq` tells whether two identifiers are equal.
use Rattle.std.specs.Prelude.{ℕ, ◌+◌, Bool, true, false, ◌&&◌, not, ltb, length, replicate, if◌then◌else◌}
use mathlib.Core.List.{List, [], ◌∷◌, ◌++◌, map, tail}
use Rattle.std.proofs.Math.Option.{Option, none, some}
use Rattle.definition.specs.Basic.{Answer, ok, fails, refused, ◌>>=◌, each, first_at, is_some, at}
use Rattle.definition.specs.Syntax.{ValType, Space, funcs, tables, mems, types, elems, datas, same_space, FuncType, ExternType, func, table, mem, global}
use Rattle.definition.specs.Syntax.{Mode, passive, active, Index, absent, number, named, own_index, Local, TypeUse, Own, own_func, own_table, own_mem, own_global}
use Rattle.definition.specs.Syntax.{Operand, nothing, label, labels, local, item, items, access, int32, int64, raw, Plain, Instr, opens, elses, ends, indirect, plain}
use Rattle.definition.specs.Syntax.{Body, Field, type_f, import_f, own_f, export_f, start_f, elem_f, data_f}
use Rattle.definition.specs.Syntax.{LocalNo, TypeNo, Depth, BlockType, empty, single, typed, Op}
use Rattle.definition.specs.Syntax.{Imm, no_imm, block_imm, label_imm, labels_imm, local_imm, item_imm, items_imm, indirect_imm, access_imm, int32_imm, int64_imm, raw_imm}
use Rattle.definition.specs.Syntax.{Item, type_i, import_i, func_i, table_i, mem_i, global_i, export_i, start_i, elem_i, data_i}
use Rattle.definition.specs.Spaces.{extern_space, own_space}
use Rattle.definition.specs.Deinline.{Numbered}
use Rattle.definition.specs.Types.{signature, same_type, type_number, is_inline, is_short}

-- ## Namespaces

-- the identifiers of an index space, or of locals, or of open blocks: each may be absent
abbrev pub Namespace : Type 0 → Type 0
Namespace I = List (Option I)

module _ {I : Type 0} (eq : I → I → Bool) where
  -- this place carries the identifier
  abbrev pub carries : I → Option I → Bool
  carries i none = false
  carries i (some j) = eq i j

  -- the first place that carries it
  unfoldable pub find : I → Namespace I → Option ℕ
  find i ns = first_at (carries i) ns

  -- an identifier that is there already
  unfoldable pub taken : Option I → Namespace I → Bool
  taken none ns = false
  taken (some i) ns = is_some (find i ns)

  -- no identifier comes twice, nor is one of `earlier`
  unfoldable pub distinct : Namespace I → Namespace I → Bool
  distinct earlier [] = true
  distinct earlier (i ∷ ns) = not (taken i earlier) && distinct (earlier ++ (i ∷ [])) ns

-- ## Registration: the items of a module in their order, each with the record that defined it and its space

abbrev pub Items : Type 0 → Type 0
Items I = List (ℕ × Space × Option I)

-- the namespace of a space
unfoldable pub space : {I : Type 0} → Space → Items I → Namespace I
space k [] = []
space k ((r, j, i) ∷ xs) = (if same_space k j then i ∷ [] else []) ++ space k xs

-- the records that defined its items, in the same order
unfoldable pub definers : {I : Type 0} → Space → Items I → List ℕ
definers k [] = []
definers k ((r, j, i) ∷ xs) = (if same_space k j then r ∷ [] else []) ++ definers k xs

-- the item that a field brings
unfoldable pub item_of : {I : Type 0} → Field I → Option (Space × Option I)
item_of (type_f i t) = some (types, i)
item_of (import_f n i d) = some (extern_space d, i)
item_of (own_f i o b) = some (own_space o, i)
item_of (export_f n k x) = none
item_of (start_f x) = none
item_of (elem_f i m xs) = some (elems, i)
item_of (data_f i m d) = some (datas, i)

-- the record that defined the first of some items that carries an identifier
abbrev pub defined_at : List ℕ → Option ℕ → Option ℕ
defined_at rs none = none
defined_at rs (some n) = at rs n

unfoldable pub holder : {I : Type 0} → (I → I → Bool) → Option I → Namespace I → List ℕ → Option ℕ
holder eq none ns rs = none
holder eq (some i) ns rs = defined_at rs (find eq i ns)

-- an identifier that has a holder comes twice: 13, with the holder's record (document 02, §6)
abbrev pub unheld : {A : Type 0} → ℕ → Option ℕ → A → Answer A
unheld r none a = ok a
unheld r (some q) a = fails (record { number = 13; rec = r; first = q })

abbrev pub register_one : {I : Type 0} → (I → I → Bool) → ℕ → Items I → Option (Space × Option I) → Answer (Items I)
register_one eq r xs none = ok xs
register_one eq r xs (some (k, i)) = unheld r (holder eq i (space k xs) (definers k xs)) (xs ++ ((r, k, i) ∷ []))

unfoldable pub register : {I : Type 0} → (I → I → Bool) → Items I → Numbered I → Answer (Items I)
register eq xs [] = ok xs
register eq xs ((r, f) ∷ fs) = register_one eq r xs (item_of f) >>= λ ys. register eq ys fs

-- ## Indices

-- what names mean in a module: the test of identifiers, the namespace of each index space with the records that defined its items, and the
-- types, added ones included; and whether the call is strict
pub record Scope (I : Type 0) : Type 0 where
  pub strict : Bool
  pub eq : I → I → Bool
  pub names : Space → Namespace I
  pub definers : Space → List ℕ
  pub all_types : List FuncType

-- the number of an identifier, or refusal 14
abbrev pub found_at : ℕ → Option ℕ → Answer ℕ
found_at r none = refused 14 r
found_at r (some n) = ok n

-- a number passes unchanged, and unchecked; in a strict call only below the limit, else 20 (document 02, §8)
unfoldable pub below : Bool → ℕ → ℕ → ℕ → Answer ℕ
below strict limit r n = if strict && not (ltb n limit) then refused 20 r else ok n

-- an absent index means 0; an item's own number cannot point nowhere
unfoldable pub number_in : {I : Type 0} → Bool → (I → I → Bool) → Namespace I → ℕ → ℕ → Index I → Answer ℕ
number_in strict eq ns limit r absent = below strict limit r 0
number_in strict eq ns limit r (number n) = below strict limit r n
number_in strict eq ns limit r (named i) = found_at r (find eq i ns)
number_in strict eq ns limit r (own_index n) = ok n

unfoldable pub is_absent : {I : Type 0} → Index I → Bool
is_absent absent = true
is_absent (number n) = false
is_absent (named i) = false
is_absent (own_index n) = false

-- an inline type must be the one that the index names: 15 where there is none, 16 where it differs
abbrev pub agrees : ℕ → FuncType → ℕ → Option FuncType → Answer TypeNo
agrees r s n none = refused 15 r
agrees r s n (some t) = if same_type s t then ok (record { type_no = n }) else refused 16 r

abbrev pub short_type : List ValType → BlockType
short_type [] = empty
short_type (t ∷ ts) = single t

abbrev pub param_count : Option FuncType → ℕ
param_count none = 0
param_count (some t) = length t.params

-- the parameters' places: an inline type's bring their identifiers; else the named type's are nameless, and none if the number is out of range
unfoldable pub param_names : {I : Type 0} → List FuncType → TypeNo → TypeUse I → Namespace I
param_names ts n t =
    if is_inline t then map (λ p. p.id) t.params else replicate (param_count (at ts n.type_no)) none

-- the parameters, and then the locals
unfoldable pub locals_of : {I : Type 0} → List FuncType → TypeNo → TypeUse I → List (Local I) → Namespace I
locals_of ts n t ls = param_names ts n t ++ map (λ l. l.id) ls

-- the labels of the open blocks after an instruction, innermost first
unfoldable pub blocks_after : {I : Type 0} → Namespace I → Instr I → Namespace I
blocks_after blocks (opens op l t) = l ∷ blocks
blocks_after blocks (elses l) = blocks
blocks_after blocks (ends l) = tail blocks
blocks_after blocks (indirect x t) = blocks
blocks_after blocks (plain p) = blocks

module _ {I : Type 0} (Γ : Scope I) where
  -- how many items a space has; the types with those that uses add
  unfoldable pub count_in : Space → ℕ
  count_in k = if same_space k types then length Γ.all_types else length (Γ.names k)

  unfoldable pub item_no : Space → ℕ → Index I → Answer ℕ
  item_no k r x = number_in Γ.strict Γ.eq (Γ.names k) (count_in k) r x

  -- ## Type uses: the index, then 15, then 16

  unfoldable pub checked : ℕ → Bool → FuncType → ℕ → Answer TypeNo
  checked r inline? s n = if inline? then agrees r s n (at Γ.all_types n) else ok (record { type_no = n })

  -- a use without an index has the number that interning gave it
  unfoldable pub type_no_of : ℕ → Bool → FuncType → Index I → Answer TypeNo
  type_no_of r inline? s absent = ok (record { type_no = type_number s Γ.all_types })
  type_no_of r inline? s (number n) = item_no types r (number n) >>= λ m. checked r inline? s m
  type_no_of r inline? s (named i) = item_no types r (named i) >>= λ n. checked r inline? s n
  type_no_of r inline? s (own_index n) = item_no types r (own_index n) >>= λ m. checked r inline? s m

  unfoldable pub type_no : ℕ → TypeUse I → Answer TypeNo
  type_no r t = type_no_of r (is_inline t) (signature t) t.index

  unfoldable pub block_type : ℕ → TypeUse I → Answer BlockType
  block_type r t =
      if is_absent t.index && is_short t then ok (short_type t.results) else (type_no r t >>= λ n. ok (typed n))

  -- ## Bodies: `locals` are the function's parameters and locals, `blocks` the labels of the open blocks, innermost first

  unfoldable pub local_no : Namespace I → ℕ → Index I → Answer LocalNo
  local_no locals r x = number_in Γ.strict Γ.eq locals (length locals) r x >>= λ n. ok (record { local_no = n })

  -- the label search walks outward from the innermost block: its place in `blocks` is its depth. The number of open blocks is the depth of
  -- the function's own label
  unfoldable pub depth_of : Namespace I → ℕ → Index I → Answer Depth
  depth_of blocks r x = number_in Γ.strict Γ.eq blocks (length blocks + 1) r x >>= λ n. ok (record { depth = n })

  unfoldable pub immediate : Namespace I → Namespace I → ℕ → Operand I → Answer Imm
  immediate locals blocks r nothing = ok no_imm
  immediate locals blocks r (label x) = depth_of blocks r x >>= λ d. ok (label_imm d)
  immediate locals blocks r (labels xs x) = each (depth_of blocks r) xs >>= λ ds. depth_of blocks r x >>= λ d. ok (labels_imm ds d)
  immediate locals blocks r (local x) = local_no locals r x >>= λ n. ok (local_imm n)
  immediate locals blocks r (item k x) = item_no k r x >>= λ n. ok (item_imm n)
  immediate locals blocks r (items b xs) = each (λ x. item_no x.0 r x.1) xs >>= λ ns. ok (items_imm b ns)
  immediate locals blocks r (access e o x) = item_no mems r x >>= λ m. ok (access_imm e o m)
  immediate locals blocks r (int32 n) = ok (int32_imm n)
  immediate locals blocks r (int64 n) = ok (int64_imm n)
  immediate locals blocks r (raw bs) = ok (raw_imm bs)

  unfoldable pub plain_op : Namespace I → Namespace I → ℕ → Plain I → Answer Op
  plain_op locals blocks r p = immediate locals blocks r p.operand >>= λ i. ok (record { opcode = p.opcode; imm = i })

  -- a constant has no locals and no blocks
  unfoldable pub const_op : ℕ → Plain I → Answer Op
  const_op r c = plain_op [] [] r c

  -- a label on an else or an end must be that of the innermost block, else 17
  unfoldable pub closes : ℕ → Option I → Namespace I → Answer (Unit {0})
  closes r none blocks = ok tt
  closes r (some i) [] = ok tt
  closes r (some i) (l ∷ blocks) = if carries Γ.eq i l then ok tt else refused 17 r

  -- in call_indirect the table before the type
  unfoldable pub instr_op : Namespace I → Namespace I → ℕ → Instr I → Answer Op
  instr_op locals blocks r (opens op l t) = block_type r t >>= λ b. ok (record { opcode = op; imm = block_imm b })
  instr_op locals blocks r (elses l) = closes r l blocks >>= λ _. ok (record { opcode = 0x05; imm = no_imm })
  instr_op locals blocks r (ends l) = closes r l blocks >>= λ _. ok (record { opcode = 0x0B; imm = no_imm })
  instr_op locals blocks r (indirect x t) =
      item_no tables r x >>= λ n. type_no r t >>= λ y. ok (record { opcode = 0x11; imm = indirect_imm y n })
  instr_op locals blocks r (plain p) = plain_op locals blocks r p

  unfoldable pub body : Namespace I → Namespace I → Body I → Answer (List Op)
  body locals blocks [] = ok []
  body locals blocks ((r, x) ∷ xs) =
      instr_op locals blocks r x >>= λ o. body locals (blocks_after blocks x) xs >>= λ os. ok (o ∷ os)

  -- ## Fields

  -- an identifier that comes twice among a function's parameters and locals, which are all of its own record
  unfoldable pub distinct_locals : ℕ → Namespace I → Answer (Unit {0})
  distinct_locals r locals = if distinct Γ.eq [] locals then ok tt else refused 13 r

  -- in a function the type use, the locals, the body
  unfoldable pub own_item : ℕ → Own I → Body I → Answer Item
  own_item r (own_func t ls) b =
      type_no r t >>= λ n.
      distinct_locals r (locals_of Γ.all_types n t ls) >>= λ _.
      body (locals_of Γ.all_types n t ls) [] b >>= λ os.
      ok (func_i n (map (λ l. l.type) ls) os)
  own_item r (own_table t) b = ok (table_i t)
  own_item r (own_mem l) b = ok (mem_i l)
  own_item r (own_global t c) b = const_op r c >>= λ o. ok (global_i t o)

  unfoldable pub extern_no : ℕ → ExternType (TypeUse I) → Answer (ExternType TypeNo)
  extern_no r (func t) = type_no r t >>= λ n. ok (func n)
  extern_no r (table t) = ok (table t)
  extern_no r (mem l) = ok (mem l)
  extern_no r (global g) = ok (global g)

  -- a table index that is absent stays so: it decides the segment's form
  unfoldable pub table_no : ℕ → Index I → Answer (Option ℕ)
  table_no r x = item_no tables r x >>= λ n. ok (if is_absent x then none else some n)

  unfoldable pub mode_of : {X : Type 0} → (ℕ → Index I → Answer X) → ℕ → Mode (Index I) (Plain I) → Answer (Mode X Op)
  mode_of f r passive = ok passive
  mode_of f r (active x c) = f r x >>= λ n. const_op r c >>= λ o. ok (active n o)

  unfoldable pub resolve : ℕ → Field I → Answer Item
  resolve r (type_f i t) = ok (type_i t)
  resolve r (import_f n i d) = extern_no r d >>= λ e. ok (import_i n e)
  resolve r (own_f i o b) = own_item r o b
  resolve r (export_f n k x) = item_no k r x >>= λ m. ok (export_i n k m)
  resolve r (start_f x) = item_no funcs r x >>= λ m. ok (start_i m)
  resolve r (elem_f i m xs) = mode_of table_no r m >>= λ y. each (item_no funcs r) xs >>= λ ns. ok (elem_i y ns)
  resolve r (data_f i m d) = mode_of (item_no mems) r m >>= λ y. ok (data_i y d)

  unfoldable pub resolve_all : Numbered I → Answer (List Item)
  resolve_all fs = each (λ x. resolve x.0 x.1) fs
