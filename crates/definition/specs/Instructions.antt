-- The instruction records of a body, and constants (document 01; opcodes as in the standard, 5.4).
use Rattle.std.specs.Prelude.{ℕ, zero, suc, ◌-◌, Bool, true, false, ◌&&◌, ◌||◌, not, eqb, leb, ltb, length, get_or, if◌then◌else◌}
use mathlib.Core.List.{List, [], ◌∷◌, tail}
use Rattle.std.proofs.Math.Option.{Option, none, some}
use Rattle.definition.specs.Basic.{between, is_some}
use Rattle.definition.specs.Syntax.{Identifier, Space, funcs, mems, globals, datas, same_space, Index}
use Rattle.definition.specs.Syntax.{Operand, nothing, label, labels, local, item, items, access, int32, int64, raw, Plain, Instr, opens, elses, ends, indirect, plain, Rec, instr, folded, body_end}
use Rattle.definition.specs.Reader.{Reader, ◌>>=◌, ◌>>◌, give, refuse, require, byte, byte_of, many, choose}
use Rattle.definition.specs.Token.{u32, u64, up_to, counted, identifier, ref_type, present, optional, type_use}

-- ## What stands after an opcode

-- the operands of an instruction that opens and closes no block and has no type use, by the standard's names
pub data Operands : Type 0 where
  bare labelidx labelidxs localidx funcidx globalidx memidx memarg i32 i64 f32 f64 heaptype bulk : Operands

-- block, loop or if; else; end; call_indirect; or operands
pub data Form : Type 0 where
  opening elsing ending calling : Form
  operands : Operands → Form

-- the opcodes of document 01, in ranges, each with what stands after it
unfoldable pub opcodes : List (ℕ × ℕ × Form)
opcodes =
    (0x00, 0x01, operands bare)
    ∷ (0x02, 0x04, opening)
    ∷ (0x05, 0x05, elsing)
    ∷ (0x0B, 0x0B, ending)
    ∷ (0x0C, 0x0D, operands labelidx)
    ∷ (0x0E, 0x0E, operands labelidxs)
    ∷ (0x0F, 0x0F, operands bare)
    ∷ (0x10, 0x10, operands funcidx)
    ∷ (0x11, 0x11, calling)
    ∷ (0x1A, 0x1B, operands bare)
    ∷ (0x20, 0x22, operands localidx)
    ∷ (0x23, 0x24, operands globalidx)
    ∷ (0x28, 0x3E, operands memarg)
    ∷ (0x3F, 0x40, operands memidx)
    ∷ (0x41, 0x41, operands i32)
    ∷ (0x42, 0x42, operands i64)
    ∷ (0x43, 0x43, operands f32)
    ∷ (0x44, 0x44, operands f64)
    ∷ (0x45, 0xC4, operands bare)
    ∷ (0xD0, 0xD0, operands heaptype)
    ∷ (0xD1, 0xD1, operands bare)
    ∷ (0xD2, 0xD2, operands funcidx)
    ∷ (0xFC, 0xFC, operands bulk)
    ∷ []

unfoldable pub form_in : List (ℕ × ℕ × Form) → ℕ → Option Form
form_in [] b = none
form_in (row ∷ rows) b = if between row.0 row.1 b then some row.2 else form_in rows b

unfoldable pub form_of : ℕ → Option Form
form_of b = form_in opcodes b

-- the natural exponents of the opcodes 28 to 3E
unfoldable pub naturals : List ℕ
naturals = 2 ∷ 3 ∷ 2 ∷ 3 ∷ 0 ∷ 0 ∷ 1 ∷ 1 ∷ 0 ∷ 0 ∷ 1 ∷ 1 ∷ 2 ∷ 2 ∷ 2 ∷ 3 ∷ 2 ∷ 3 ∷ 0 ∷ 1 ∷ 0 ∷ 1 ∷ 2 ∷ []

-- the exponent that an alignment byte says: 0 is the opcode's natural one, else the byte is one more than the exponent
unfoldable pub exponent : ℕ → ℕ → ℕ
exponent op b = if eqb b 0 then get_or naturals (op - 0x28) 0 else b - 1

unfoldable pub alignment : Reader ℕ
alignment = byte_of 4 (λ b. leb b 32)

-- ## Instructions

abbrev pub done : ℕ → Operand Identifier → Reader (Plain Identifier)
done op x = give (record { opcode = op; operand = x })

-- after FC: the second byte, and the spaces of its indices in order: memory.init, data.drop, memory.copy (destination and source), memory.fill
unfoldable pub bulks : List (ℕ × List Space)
bulks =
    (0x08, datas ∷ mems ∷ [])
    ∷ (0x09, datas ∷ [])
    ∷ (0x0A, mems ∷ mems ∷ [])
    ∷ (0x0B, mems ∷ [])
    ∷ []

unfoldable pub spaces_in : List (ℕ × List Space) → ℕ → Option (List Space)
spaces_in [] b = none
spaces_in ((c, ks) ∷ rows) b = if eqb b c then some ks else spaces_in rows b

unfoldable pub spaces_of : ℕ → Option (List Space)
spaces_of b = spaces_in bulks b

-- the index of a memory may be absent
unfoldable pub index_in : Space → Reader (Index Identifier)
index_in k = if same_space k mems then optional else present

-- indices, one of each space
unfoldable pub indices : List Space → Reader (List (Space × Index Identifier))
indices [] = give []
indices (k ∷ ks) = index_in k >>= λ x. indices ks >>= λ xs. give ((k, x) ∷ xs)

abbrev pub bulk_of : ℕ → Option (List Space) → Reader (Operand Identifier)
bulk_of b none = refuse 4
bulk_of b (some ks) = indices ks >>= λ xs. give (items b xs)

unfoldable pub plain_of : ℕ → Operands → Reader (Plain Identifier)
plain_of op bare = done op nothing
plain_of op labelidx = present >>= λ x. done op (label x)
plain_of op labelidxs = counted 1024 present >>= λ xs. present >>= λ x. done op (labels xs x)
plain_of op localidx = present >>= λ x. done op (local x)
plain_of op funcidx = present >>= λ x. done op (item funcs x)
plain_of op globalidx = present >>= λ x. done op (item globals x)
plain_of op memidx = optional >>= λ x. done op (item mems x)
plain_of op memarg = alignment >>= λ b. u32 >>= λ o. optional >>= λ x. done op (access (exponent op b) o x)
plain_of op i32 = u32 >>= λ n. done op (int32 n)
plain_of op i64 = u64 >>= λ n. done op (int64 n)
plain_of op f32 = many 4 byte >>= λ bs. done op (raw bs)
plain_of op f64 = many 8 byte >>= λ bs. done op (raw bs)
plain_of op heaptype = ref_type >>= λ t. done op (raw (t ∷ []))
plain_of op bulk = byte >>= λ b. bulk_of b (spaces_of b) >>= λ x. done op x

-- a constant is one instruction, chosen by its first byte
unfoldable pub constant : Reader (Plain Identifier)
constant = byte >>= λ b. choose b
    ((0, plain_of 0x41 i32)
    ∷ (1, plain_of 0x42 i64)
    ∷ (2, plain_of 0x43 f32)
    ∷ (3, plain_of 0x44 f64)
    ∷ (4, plain_of 0x23 globalidx)
    ∷ (5, plain_of 0xD0 heaptype)
    ∷ (6, plain_of 0xD2 funcidx)
    ∷ [])

-- what stands after an instruction's opcode
unfoldable pub instruction : ℕ → Form → Reader (Instr Identifier)
instruction op opening = identifier >>= λ l. type_use >>= λ t. give (opens op l t)
instruction op elsing = identifier >>= λ l. give (elses l)
instruction op ending = identifier >>= λ l. give (ends l)
instruction op calling = optional >>= λ x. type_use >>= λ t. give (indirect x t)
instruction op (operands x) = plain_of op x >>= λ p. give (plain p)

-- ## Where reading stands in a body (document 02, §3 and §4)

-- the open blocks, innermost first, each with whether an else may still come in it
abbrev pub Blocks : Type 0
Blocks = List Bool

-- the open blocks; and the folded records that wait for operands, innermost first, each with how many are still due
pub record Inside : Type 0 where
  pub blocks : Blocks
  pub due : List ℕ

-- at a body's beginning no block is open and no operand is due
abbrev pub begun : Inside
begun = record { blocks = []; due = [] }

unfoldable pub is_open : Blocks → Bool
is_open [] = false
is_open (b ∷ bs) = true

-- an else belongs to an if that has had none
unfoldable pub may_else : Blocks → Bool
may_else [] = false
may_else (b ∷ bs) = b

-- the 129th open block is refused by 7; by 8 an else that belongs to no if, and an end with no block open
unfoldable pub admits : Inside → Form → Reader (Unit {0})
admits i opening = require 7 (ltb (length i.blocks) 128)
admits i elsing = require 8 (may_else i.blocks)
admits i ending = require 8 (is_open i.blocks)
admits i calling = give tt
admits i (operands x) = give tt

-- after block, loop or if, by its opcode; after an else. An end leaves the rest
unfoldable pub opened : ℕ → Blocks → Blocks
opened op bs = eqb op 0x04 ∷ bs

unfoldable pub elsed : Blocks → Blocks
elsed [] = []
elsed (b ∷ bs) = false ∷ bs

unfoldable pub open_after : {I : Type 0} → Instr I → Blocks → Blocks
open_after (opens op l t) bs = opened op bs
open_after (elses l) bs = elsed bs
open_after (ends l) bs = tail bs
open_after (indirect x t) bs = bs
open_after (plain p) bs = bs

unfoldable pub inside_after : {I : Type 0} → Instr I → Inside → Inside
inside_after x i = record { blocks = open_after x i.blocks; due = i.due }

-- an operand is complete: a folded record that waited for it alone is complete too, and so on outward
unfoldable pub complete : List ℕ → List ℕ
complete [] = []
complete (n ∷ ns) = if leb n 1 then complete ns else (n - 1) ∷ ns

-- after a folded record, by the count of its operands
unfoldable pub awaiting : ℕ → List ℕ → List ℕ
awaiting zero ns = complete ns
awaiting (suc n) ns = suc n ∷ ns

unfoldable pub folded_after : ℕ → Inside → Inside
folded_after n i = record { blocks = i.blocks; due = awaiting n i.due }

-- ## The records of a body

abbrev pub formed : Inside → ℕ → Option Form → Reader (Instr Identifier)
formed i op none = refuse 4
formed i op (some form) = admits i form >> instruction op form

-- a record that is not folded, by its first byte: FF, refused by 8 where a block is open, or an instruction
unfoldable pub unfolded_rec : Inside → ℕ → Reader (Rec Identifier)
unfolded_rec i b =
    if eqb b 0xFF then (require 8 (not (is_open i.blocks)) >> give body_end) else (formed i b (form_of b) >>= λ x. give (instr x))

-- blocks, loops, ifs, elses and ends may not be folded
unfoldable pub may_fold : Form → Bool
may_fold opening = false
may_fold elsing = false
may_fold ending = false
may_fold calling = true
may_fold (operands x) = true

abbrev pub operator_of : ℕ → Option Form → Reader (Instr Identifier)
operator_of op none = refuse 4
operator_of op (some form) = require 4 (may_fold form) >> instruction op form

unfoldable pub operator : Reader (Instr Identifier)
operator = byte >>= λ b. operator_of b (form_of b)

-- what stands after F0: the operator, and the count of its operands
unfoldable pub fold : Reader (Rec Identifier)
fold = operator >>= λ x. up_to 7 16 >>= λ n. give (folded x n)

-- F0 is refused by 7 where it would be nested 33 deep
unfoldable pub folded_rec : Inside → Reader (Rec Identifier)
folded_rec i = require 7 (ltb (length i.due) 32) >> fold

unfoldable pub is_due : List ℕ → Bool
is_due [] = false
is_due (n ∷ ns) = true

-- a record by its first byte: F0, and where no operand is due any other
unfoldable pub body_rec : Inside → Reader (Rec Identifier)
body_rec i = do
  b ← byte
  if eqb b 0xF0 then folded_rec i else (require 4 (not (is_due i.due)) >> unfolded_rec i b)

-- may a record of a body begin with this byte?
unfoldable pub body_begins : Inside → ℕ → Bool
body_begins i b = eqb b 0xF0 || (not (is_due i.due) && (eqb b 0xFF || is_some (form_of b)))
