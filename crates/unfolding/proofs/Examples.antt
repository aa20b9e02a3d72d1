-- The flat streams of some streams, by computing.
use mathlib.Core.Path.{◌≡◌, refl}
use Prim.Native.Nat.{ℕ, ◌-◌}
use mathlib.Core.Bool.{Bool, true, ◌&&◌}
use mathlib.Core.List.{List, [], ◌∷◌, ◌++◌}
use lib.ListN.{length, replicate}
use Rattle.definition.specs.Basic as Basic
use Rattle.definition.specs.Basic.{same_bytes, concat_map}
use Rattle.definition.specs.Syntax.{Bytes}
use Rattle.definition.specs.Spaces as Spaces
use Rattle.definition.specs.Reader as Reader
use Rattle.definition.specs.Token as Token
use Rattle.definition.specs.Instructions as Instructions
use Rattle.definition.specs.Records as Records
use Rattle.definition.specs.Read as Read
use Rattle.unfolding.specs.FlatStream as FlatStream
use Rattle.unfolding.specs.FlatStream.{flat_stream}

-- ## Records

-- an own function with no identifier, exports, type or locals; its body follows
abbrev function : Bytes
function = 0x03 ∷ 0x00 ∷ 0x00 ∷ 0x00 ∷ 0x00 ∷ 0x00 ∷ 0x00 ∷ 0x00 ∷ []

abbrev body_end : Bytes
body_end = 0xFF ∷ []

-- a passive data segment of one byte, F0
abbrev segment : Bytes
segment = 0x0A ∷ 0x00 ∷ 0x00 ∷ 0x01 ∷ 0xF0 ∷ []

abbrev block : Bytes
block = 0x02 ∷ 0x00 ∷ 0x00 ∷ 0x00 ∷ 0x00 ∷ []

abbrev end : Bytes
end = 0x0B ∷ 0x00 ∷ []

abbrev nop : Bytes
nop = 0x01 ∷ []

abbrev drop' : Bytes
drop' = 0x1A ∷ []

abbrev i32_const : ℕ → Bytes
i32_const n = 0x41 ∷ n ∷ []

abbrev i32_add : Bytes
i32_add = 0x6A ∷ []

-- with the natural alignment, offset 0, the memory not told
abbrev i32_store : Bytes
i32_store = 0x36 ∷ 0x00 ∷ 0x00 ∷ 0x00 ∷ []

-- memory.fill, the memory not told
abbrev fill : Bytes
fill = 0xFC ∷ 0x0B ∷ 0x00 ∷ []

-- an operator, folded, and its folded operands
abbrev fold : Bytes → List Bytes → Bytes
fold op xs = 0xF0 ∷ op ++ (length xs ∷ concat_map (λ x. x) xs)

-- i32.store (i32.add (i32.const 1) (i32.const 2)) (i32.const 3)
abbrev store : Bytes
store = fold i32_store (fold i32_add (fold (i32_const 1) [] ∷ fold (i32_const 2) [] ∷ []) ∷ fold (i32_const 3) [] ∷ [])

abbrev flat_store : Bytes
flat_store = i32_const 1 ++ i32_const 2 ++ i32_add ++ i32_const 3 ++ i32_store

-- nops, each an operand of the one before, so many deep
abbrev nested : ℕ → Bytes
nested n = concat_map {A = ℕ} (λ _. 0xF0 ∷ 0x01 ∷ 0x01 ∷ []) (replicate (n - 1) 0) ++ (0xF0 ∷ 0x01 ∷ 0x00 ∷ [])

-- ## The table

abbrev rows : List (Bytes × Bytes)
rows =
    -- operands from left to right, then the operator
    (function ++ store ++ body_end, function ++ flat_store ++ body_end)
    -- among records that are not folded, in a block; and in a second body. An F0 among data stays
    ∷ (
      segment ++ function ++ block ++ store ++ i32_const 4 ++ drop' ++ end ++ fold drop' (fold fill [] ∷ []) ++ body_end ++ function ++ fold nop [] ++ body_end ++ segment,
      segment ++ function ++ block ++ flat_store ++ i32_const 4 ++ drop' ++ end ++ fill ++ drop' ++ body_end ++ function ++ nop ++ body_end ++ segment,
    )
    -- 32 deep, and 16 operands
    ∷ (function ++ nested 32 ++ fold drop' (replicate 16 (nested 2)) ++ body_end, function ++ replicate 64 0x01 ++ drop' ++ body_end)
    -- no folded record
    ∷ (function ++ flat_store ++ body_end, function ++ flat_store ++ body_end)
    -- one that is refused: an operand is due at the body's end
    ∷ (function ++ (0xF0 ∷ 0x01 ∷ 0x01 ∷ []) ++ body_end, function ++ (0xF0 ∷ 0x01 ∷ 0x01 ∷ []) ++ body_end)
    ∷ []

abbrev every : List (Bytes × Bytes) → Bool
every [] = true
every ((s, flat) ∷ rows) = same_bytes (flat_stream s) flat && every rows

pub flat_streams : every rows ≡ true
unfolding Basic.concat_map Basic.same Basic.same_bytes Basic.is_some Basic.between Spaces.brings Spaces.source_space Spaces.own_space Spaces.segments Spaces.count Reader.byte Reader.many
    Token.needed Token.groups Token.u32 Token.up_to Token.counted Token.id_byte Token.identifier Token.bytes Token.val_type Token.present Token.number_index Token.optional Token.param Token.type_use
    Instructions.opcodes Instructions.form_in Instructions.form_of Instructions.alignment Instructions.bulks Instructions.spaces_in Instructions.spaces_of Instructions.index_in Instructions.indices
    Instructions.plain_of Instructions.instruction Instructions.is_open Instructions.admits Instructions.opened Instructions.open_after Instructions.inside_after Instructions.complete
    Instructions.awaiting Instructions.folded_after Instructions.unfolded_rec Instructions.may_fold Instructions.operator Instructions.fold Instructions.folded_rec Instructions.is_due Instructions.body_rec Instructions.body_begins
    Records.item_rec Records.own_func_form Records.func_rec Records.mode Records.data_rec Records.field_recs Records.field_rec
    Read.nothing_seen Read.room Read.own_body Read.source_body Read.field_body Read.is_start Read.body_after Read.items_after Read.started_after Read.seen_after Read.one_record Read.records Read.read
    FlatStream.operands_of FlatStream.unfolded FlatStream.unfolded_bytes FlatStream.part_of FlatStream.parts FlatStream.parts_of FlatStream.groups FlatStream.flat_order FlatStream.flat_stream
flat_streams = refl
