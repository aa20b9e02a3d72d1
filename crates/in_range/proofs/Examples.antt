-- What `InRange` lets pass and what it rules out, at its edges: each by computing.
use mathlib.Core.Path.{refl}
use Prim.Native.Nat.{ℕ}
use mathlib.Core.Bool.{false}
use mathlib.Core.List.{List, [], ◌∷◌}
use mathlib.Core.Option.{none}
use native.Mathlib.Omega.{arith}
use Rattle.definition.specs.Basic.{concat_map, at, between}
use Rattle.definition.specs.Syntax.{Bytes, funcs, func, Limits, ImportName, active, empty, typed, Op, Imm, no_imm, block_imm, label_imm, local_imm, item_imm, items_imm, int32_imm}
use Rattle.definition.specs.Syntax.{Item, type_i, import_i, func_i, table_i, mem_i, export_i, elem_i}
use Rattle.definition.specs.Instructions.{opcodes, form_in, form_of, bulks, spaces_in, spaces_of}
use Rattle.definition.specs.Spaces.{extern_space, count}
use Rattle.in_range.specs.InRange.{item_brings, count_of, type_of, types_of, ItemInRange, InRange}

abbrev op : ℕ → Imm → Op
op b i = record { opcode = b; imm = i }

abbrev unlimited : Limits
unlimited = record { is64 = false; minimum = 0; maximum = none }

-- one type with one parameter, a memory, and a function of that type with one local and this body
abbrev function : List Op → Item
function os = func_i (record { type_no = 0 }) (0x7F ∷ []) os

abbrev with : List Op → List Item
with os = type_i (record { params = 0x7F ∷ []; results = [] }) ∷ mem_i unlimited ∷ function os ∷ []

-- its body alone
abbrev Passes : List Op → Type 0
Passes os = ItemInRange (with os) (function os)

abbrev local_get : ℕ → Op
local_get n = op 0x20 (local_imm (record { local_no = n }))

abbrev br : ℕ → Op
br n = op 0x0C (label_imm (record { depth = n }))

-- a parameter and a local: no third
pub last_local : Passes (local_get 1 ∷ [])
unfolding count_of types_of item_brings type_of concat_map count at
last_local = (omega arith, (omega arith, tt))

pub no_local : Passes (local_get 2 ∷ []) → ⊥
unfolding types_of type_of concat_map at
no_local h = let x = h.1.0 in omega arith

-- the outermost label is the function's own, within a block and after it
pub own-label : Passes (op 0x02 (block_imm empty) ∷ br 1 ∷ op 0x0B no_imm ∷ br 0 ∷ [])
unfolding count_of item_brings concat_map count form_of form_in opcodes between
own-label = (omega arith, (tt, (omega arith, (tt, (omega arith, tt)))))

pub no_label : Passes (op 0x02 (block_imm empty) ∷ op 0x0B no_imm ∷ br 1 ∷ []) → ⊥
unfolding form_of form_in opcodes between
no_label h = let x = h.1.1.1.0 in omega arith

-- call 0 and memory.size 0, by their opcodes; there is no function 1 and no global 0
pub first-items : Passes (op 0x10 (item_imm 0) ∷ op 0x3F (item_imm 0) ∷ [])
unfolding count_of item_brings concat_map count form_of form_in opcodes between
first-items = (omega arith, (omega arith, (omega arith, tt)))

pub no_function : Passes (op 0x10 (item_imm 1) ∷ []) → ⊥
unfolding count_of item_brings concat_map count form_of form_in opcodes between
no_function h = let x = h.1.0 in omega arith

pub no_global : Passes (op 0x23 (item_imm 0) ∷ []) → ⊥
unfolding count_of item_brings concat_map count form_of form_in opcodes between
no_global h = let x = h.1.0 in omega arith

-- memory.copy 0 0; there is no memory 1 to copy from, no data segment, and memory.fill has one index
pub first_memory : Passes (op 0xFC (items_imm 0x0A (0 ∷ 0 ∷ [])) ∷ [])
unfolding count_of item_brings concat_map count form_of form_in opcodes between spaces_of spaces_in bulks
first_memory = (omega arith, ((refl, (omega arith, (omega arith, tt))), tt))

pub no_memory : Passes (op 0xFC (items_imm 0x0A (0 ∷ 1 ∷ [])) ∷ []) → ⊥
unfolding count_of item_brings concat_map count spaces_of spaces_in bulks
no_memory h = let x = h.1.0.1.1.0 in omega arith

pub no_data : Passes (op 0xFC (items_imm 0x08 (0 ∷ 0 ∷ [])) ∷ []) → ⊥
unfolding count_of item_brings concat_map count spaces_of spaces_in bulks
no_data h = let x = h.1.0.1.0 in omega arith

pub one_memory : Passes (op 0xFC (items_imm 0x0B (0 ∷ 0 ∷ [])) ∷ []) → ⊥
unfolding spaces_of spaces_in bulks
one_memory h = h.1.0.1.1

-- a block of type 1, where there is one type
pub no_type : Passes (op 0x02 (block_imm (typed (record { type_no = 1 }))) ∷ []) → ⊥
unfolding count_of item_brings concat_map count
no_type h = let x = h.1.0 in omega arith

-- an index after an opcode that names no item has no space
pub no_space : Passes (op 0x41 (item_imm 0) ∷ []) → ⊥
unfolding form_of form_in opcodes between
no_space h = h.1.0

-- no table told is table 0, and must be there
abbrev segment : Item
segment = elem_i (active none (op 0x41 (int32_imm 0))) []

pub first-table : InRange (table_i (record { element = 0x70; limits = unlimited }) ∷ segment ∷ [])
unfolding count_of item_brings concat_map count
first-table = (tt, (((omega arith, tt), tt), tt))

pub no_table : InRange (segment ∷ []) → ⊥
unfolding count_of item_brings concat_map count
no_table h = let x = h.0.0.0 in omega arith

-- an imported function is the first: it can be exported, and there is no second
abbrev one_type : Item
one_type = type_i (record { params = []; results = [] })

abbrev imports : ImportName → Item
imports n = import_i n (func (record { type_no = 0 }))

pub first_export : (n : ImportName) (e : Bytes) → InRange (one_type ∷ imports n ∷ export_i e funcs 0 ∷ [])
unfolding count_of item_brings concat_map count extern_space
first_export n e = (tt, (omega arith, (omega arith, tt)))

pub no_export : (n : ImportName) (e : Bytes) → InRange (one_type ∷ imports n ∷ export_i e funcs 1 ∷ []) → ⊥
unfolding count_of item_brings concat_map count extern_space
no_export n e h = let x = h.1.1.0 in omega arith
