-- Two streams that meet the premise of demand 3 and two that do not, both by computing.
use mathlib.Core.Path.{◌≡◌, refl, ap, ◌∙◌, sym}
use Prim.Native.Nat.{ℕ}
use native.Mathlib.Omega.{arith}
use mathlib.Core.List.{[], ◌∷◌}
use Rattle.definition.specs.Assemble.{least_work}
use Rattle.definition.specs.Basic
use Rattle.definition.specs.Basic.{refusal}
use Rattle.definition.specs.Syntax.{Bytes}
use Rattle.definition.specs.Reader
use Rattle.definition.specs.Token
use Rattle.definition.specs.Instructions
use Rattle.definition.specs.Records
use Rattle.definition.specs.Read
use Rattle.definition.specs.Spaces
use Rattle.definition.specs.Folded
use Rattle.definition.specs.Deinline
use Rattle.definition.specs.Types
use Rattle.definition.specs.Names
use Rattle.definition.specs.Binary
use Rattle.definition.specs.Assemble
use Rattle.definition.specs.Assemble.{assemble, refusing}
use Rattle.renaming.specs.Shape
use Rattle.renaming.specs.Kinds
use Rattle.renaming.specs.Kinds.{local_of}
use Rattle.renaming.specs.Renamed.{Renamed}
use Rattle.renaming.proofs.Decide
use Rattle.renaming.proofs.Decide.{renamed_by_test, alike_of}

-- `unfolding computing` opens what the examples compute with
unfoldable pub computing : Unit {0}
unfolding
    Basic.◌>>=◌ Basic.each Basic.concat_map Basic.any Basic.same Basic.same_bytes Basic.first_at Basic.at Basic.is_some Basic.between
    Reader.byte Reader.many
    Token.needed Token.groups Token.u32 Token.up_to Token.counted Token.idchar Token.id_byte Token.identifier Token.identifier₁ Token.string_byte Token.string
    Token.is_val Token.val_type Token.named_index Token.present Token.optional Token.param Token.type_use
    Instructions.opcodes Instructions.form_in Instructions.form_of Instructions.plain_of Instructions.instruction
    Instructions.is_open Instructions.may_else Instructions.admits Instructions.opened Instructions.elsed Instructions.open_after Instructions.inside_after
    Instructions.unfolded_rec Instructions.is_due Instructions.body_rec
    Records.import_name Records.func_extern Records.import_of Records.import_rec Records.item_rec Records.own_func_form Records.func_rec Records.type_rec
    Records.field_recs Records.field_rec
    Read.nothing_seen Read.room Read.own_body Read.source_body Read.field_body Read.body_after Read.items_after Read.started_after Read.seen_after Read.one_record Read.records Read.read
    Spaces.extern_space Spaces.own_space Spaces.source_space Spaces.segments Spaces.brings Spaces.count
    Folded.flatten Folded.body_of
    Deinline.source_fields Deinline.fields_of Deinline.deinline_from Deinline.deinline Deinline.imports_from Deinline.import_order
    Types.signature Types.same_type Types.type_at Types.type_number Types.is_inline Types.is_short Types.use_of Types.instr_uses Types.body_uses
    Types.extern_uses Types.own_uses Types.field_uses Types.uses Types.declared_by Types.declared Types.intern Types.all_types
    Names.find Names.taken Names.distinct Names.space Names.definers Names.holder Names.item_of Names.register Names.below Names.number_in Names.is_absent Names.param_names Names.locals_of
    Names.blocks_after Names.count_in Names.item_no Names.checked Names.type_no_of Names.type_no Names.block_type Names.local_no Names.depth_of Names.immediate
    Names.plain_op Names.closes Names.instr_op Names.body Names.distinct_locals Names.own_item Names.extern_no Names.resolve Names.resolve_all
    Binary.unsigned Binary.u Binary.vec Binary.sized Binary.byte Binary.func_type Binary.extern_type Binary.block_type Binary.imm Binary.instruction
    Binary.expr Binary.runs Binary.func_code Binary.entries Binary.in_section Binary.imm_names_data Binary.names_data Binary.data_count Binary.joined Binary.content Binary.section Binary.preamble
    Binary.section_numbers Binary.sections Binary.module'
    Assemble.scope Assemble.items_in Assemble.items Assemble.resolved Assemble.fitting Assemble.module_in Assemble.say Assemble.say_read Assemble.assemble_by
    Assemble.assemble
    Shape.shape
    Kinds.id_names Kinds.index_names Kinds.local_names Kinds.type_names Kinds.operand_names Kinds.instr_names Kinds.extern_names Kinds.own_names
    Kinds.source_names Kinds.field_names Kinds.names_from Kinds.names
    Decide.pairs Decide.every Decide.are_alike Decide.records_of Decide.is_read
computing = tt

-- ## Two streams that meet the premise

-- a type t; an import with parameters u and v; a function f with a parameter x, a block l and a branch to it; a function g with a parameter y
-- that calls f
abbrev pub stream : ℕ → ℕ → ℕ → ℕ → ℕ → ℕ → ℕ → ℕ → Bytes
stream t u v f x l g y =
    0x01 ∷ 0x01 ∷ t ∷ 0x01 ∷ 0x7F ∷ 0x01 ∷ 0x7F
    ∷ 0x02 ∷ 0x01 ∷ 0x6D ∷ 0x01 ∷ 0x6E ∷ 0x00 ∷ 0x00 ∷ 0x00 ∷ 0x02 ∷ 0x01 ∷ u ∷ 0x7F ∷ 0x01 ∷ v ∷ 0x7F ∷ 0x00
    ∷ 0x03 ∷ 0x01 ∷ f ∷ 0x00 ∷ 0x00 ∷ 0x02 ∷ 0x01 ∷ t ∷ 0x01 ∷ 0x01 ∷ x ∷ 0x7F ∷ 0x01 ∷ 0x7F ∷ 0x00
    ∷ 0x02 ∷ 0x01 ∷ l ∷ 0x00 ∷ 0x00 ∷ 0x00
    ∷ 0x0C ∷ 0x02 ∷ 0x01 ∷ l
    ∷ 0x0B ∷ 0x01 ∷ l
    ∷ 0x20 ∷ 0x02 ∷ 0x01 ∷ x
    ∷ 0xFF
    ∷ 0x03 ∷ 0x01 ∷ g ∷ 0x00 ∷ 0x00 ∷ 0x02 ∷ 0x01 ∷ t ∷ 0x01 ∷ 0x01 ∷ y ∷ 0x7F ∷ 0x01 ∷ 0x7F ∷ 0x00
    ∷ 0x20 ∷ 0x02 ∷ 0x01 ∷ y
    ∷ 0x10 ∷ 0x02 ∷ 0x01 ∷ f
    ∷ 0xFF
    ∷ []

-- here the parameters x and y, of two functions, are called alike, and so are u and v, which have no effect
abbrev pub first : Bytes
first = stream 0x74 0x75 0x75 0x66 0x78 0x6C 0x67 0x78

-- here the type, the function f, its parameter and its label are all called p, and the function g and its parameter q; u and v are called differently
abbrev pub second : Bytes
second = stream 0x70 0x75 0x76 0x70 0x70 0x70 0x71 0x71

pub renamed : Renamed first second
unfolding computing
renamed = renamed_by_test first second refl refl refl refl

pub accepted : (assemble first least_work 65536).number ≡ 0
unfolding computing
accepted = refl

-- ## Two streams that do not: sample S7, whose use alone is called y in the second

abbrev pub S7 : ℕ → Bytes
S7 x =
    0x03 ∷ 0x00 ∷ 0x01 ∷ 0x01 ∷ 0x66 ∷ 0x00 ∷ 0x00 ∷ 0x01 ∷ 0x01 ∷ 0x78 ∷ 0x7F ∷ 0x01 ∷ 0x7F ∷ 0x00
    ∷ 0x20 ∷ 0x02 ∷ 0x01 ∷ x
    ∷ 0xFF
    ∷ []

abbrev x : Bytes
x = 0x78 ∷ []

abbrev y : Bytes
y = 0x79 ∷ []

pub not_renamed : Renamed (S7 0x78) (S7 0x79) → ⊥
unfolding computing
not_renamed d =
    let e : x ≡ y = ((alike_of (S7 0x78) (S7 0x79) d).equal_at_once (local_of 0) 0 1 x x x y refl refl refl refl).0 refl in
    let n : ◌≡◌ {A = ℕ} 0x78 0x79 = cc in
    omega arith

pub accepts_first : (assemble (S7 0x78) least_work 65536).number ≡ 0
unfolding computing
accepts_first = refl

pub refuses_second : assemble (S7 0x79) least_work 65536 ≡ refusing (refusal 14 1)
unfolding computing
refuses_second = refl

pub answers_differ : assemble (S7 0x78) least_work 65536 ≡ assemble (S7 0x79) least_work 65536 → ⊥
answers_differ e =
    let n : ◌≡◌ {A = ℕ} 0 14 = sym accepts_first ∙ ap (λ a. a.number) (e ∙ refuses_second) in
    omega arith
