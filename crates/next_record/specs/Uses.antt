-- Which bodies the interning of types has to look at, and which instructions ask for the data count section.
use Rattle.std.specs.Prelude.{ℕ, ◌+◌, Bool, false, true, not, ◌||◌, [], ◌∷◌, eqb, if◌then◌else◌}
use Rattle.area.specs.Layout.{MARK}
use Rattle.definition.specs.Syntax.{Identifier, Operand, nothing, label, labels, local, item, items, access, int32, int64, raw, Instr, opens, elses, ends, indirect, plain, Body}
use Rattle.definition.specs.Instructions.{Operands, bare, labelidx, labelidxs, localidx, funcidx, globalidx, memidx, memarg, i32, i64, f32, f64, heaptype, bulk}
use Rattle.definition.specs.Types.{is_short}

-- an instruction that may use a type: a block of no short form, or an indirect call
unfoldable pub may_use : Instr Identifier → Bool
may_use (opens op l t) = not (is_short t)
may_use (elses l) = false
may_use (ends l) = false
may_use (indirect x t) = true
may_use (plain p) = false

unfoldable pub any_use : Body Identifier → Bool
any_use [] = false
any_use ((r, x) ∷ xs) = may_use x || any_use xs

-- a record's number and whether a body may use a type, in one word: the number is at most 4,096
unfoldable pub end_word : ℕ → Bool → ℕ
end_word r u = if u then r + MARK else r

-- after FC, memory.init and data.drop name a data segment
abbrev pub byte_names : ℕ → Bool
byte_names b = eqb b 0x08 || eqb b 0x09

abbrev pub operand_names : Operand Identifier → Bool
operand_names (items b xs) = byte_names b
operand_names nothing = false
operand_names (label x) = false
operand_names (labels xs x) = false
operand_names (local x) = false
operand_names (item k x) = false
operand_names (access e o x) = false
operand_names (int32 n) = false
operand_names (int64 n) = false
operand_names (raw bs) = false

unfoldable pub names_data : Instr Identifier → Bool
names_data (opens op l t) = false
names_data (elses l) = false
names_data (ends l) = false
names_data (indirect x t) = false
names_data (plain p) = operand_names p.operand

-- the same by the sort of the operands and the byte after the opcode
abbrev pub sort_names : Operands → ℕ → Bool
sort_names bulk b = byte_names b
sort_names bare b = false
sort_names labelidx b = false
sort_names labelidxs b = false
sort_names localidx b = false
sort_names funcidx b = false
sort_names globalidx b = false
sort_names memidx b = false
sort_names memarg b = false
sort_names i32 b = false
sort_names i64 b = false
sort_names f32 b = false
sort_names f64 b = false
sort_names heaptype b = false
