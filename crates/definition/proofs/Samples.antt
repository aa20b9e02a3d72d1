-- The starred samples of document 01, a few more, those of document 02 by its sections, and those of the name section: one table, and one
-- statement, proved by computing.
use mathlib.Core.Path.{◌≡◌, refl}
use Prim.Native.Nat.{ℕ, ◌-◌}
use mathlib.Core.Bool.{Bool, true, false, ◌&&◌}
use mathlib.Core.List.{List, [], ◌∷◌, ◌++◌, map}
use mathlib.Core.Option.{Option, none, some}
use lib.Dec.{eqb}
use lib.IntN.{ℤ, pos, negsuc}
use lib.ListN.{length, replicate}
use Rattle.definition.specs.Assemble.{least_work}
use Rattle.definition.specs.Basic
use Rattle.definition.specs.Basic.{Answer, ok, fails, refused, same_bytes, concat_map}
use Rattle.definition.specs.Syntax.{Bytes, Identifier, Index, number, named, FuncType}
use Rattle.definition.specs.Syntax
use Rattle.definition.specs.Spaces
use Rattle.definition.specs.Reader
use Rattle.definition.specs.Token
use Rattle.definition.specs.Instructions
use Rattle.definition.specs.Records
use Rattle.definition.specs.Read
use Rattle.definition.specs.Folded
use Rattle.definition.specs.Deinline
use Rattle.definition.specs.Types
use Rattle.definition.specs.Names
use Rattle.definition.specs.Binary
use Rattle.definition.specs.NameSection
use Rattle.definition.specs.Assemble

-- ## What a row says

pub data Sample : Type 0 where
  -- a stream, its count of records, its module
  assembles : Bytes → ℕ → Bytes → Sample
  -- the same with the name section after the module
  assembles_names : Bytes → ℕ → Bytes → Bytes → Sample
  -- a stream, a refusal's number and record
  refuses : Bytes → ℕ → ℕ → Sample
  -- the same, and where the name was first used
  refuses_after : Bytes → ℕ → ℕ → ℕ → Sample
  -- a strict call refuses a stream, and the plain call assembles it
  refuses_strict : Bytes → ℕ → ℕ → Sample
  -- both calls refuse it at a record, the plain call by the first number
  refuses_both : Bytes → ℕ → ℕ → ℕ → Sample
  -- both calls assemble it, to the same module
  assembles_strict : Bytes → ℕ → Bytes → Sample
  -- a number, or an integer, and its groups
  groups : ℕ → Bytes → Sample
  signed_groups : ℤ → Bytes → Sample
  -- the labels of the open blocks, innermost first; an index; its depth or a refusal
  labelled : List (Option Identifier) → Index Identifier → Answer ℕ → Sample
  -- declared signatures, used ones, and the numbers that the uses get
  interned : List FuncType → List FuncType → List ℕ → Sample
  -- types, and the size of their section's content
  types_take : List FuncType → ℕ → Sample
  -- a stream, and the records of its type uses in their order
  uses : Bytes → List ℕ → Sample
  -- so many records at most, a stream with one more, a refusal's number
  passes_ceiling : ℕ → Bytes → ℕ → Sample

-- `Depth` is the sort of a label's depth: here its number
abbrev depth_is : Answer Syntax.Depth → Answer ℕ → Bool
depth_is (ok d) (ok n) = eqb d.depth n
depth_is (ok d) (fails q) = false
depth_is (fails p) (ok m) = false
depth_is (fails p) (fails q) = eqb p.number q.number && eqb p.rec q.rec

abbrev says : Assemble.Said → ℕ → ℕ → ℕ → Bytes → Bool
says a n r q bs = eqb a.number n && eqb a.rec r && eqb a.first q && same_bytes a.bytes bs

-- with a work area just long enough and the program's 65,536 bytes of output
abbrev assembled : Bytes → Assemble.Said
assembled stream = Assemble.assemble stream least_work 65536

abbrev assembled_names : Bytes → Assemble.Said
assembled_names stream = Assemble.assemble_names stream least_work 65536

abbrev assembled_strict : Bytes → Assemble.Said
assembled_strict stream = Assemble.assemble_strict stream least_work 65536

abbrev empty_scope : Names.Scope Identifier
empty_scope = record { strict = false; eq = same_bytes; names = λ k. []; definers = λ k. []; all_types = [] }

abbrev numbers_are : List FuncType → List ℕ → Answer (List FuncType) → Bool
numbers_are us ns (ok ts) = same_bytes (map (λ u. Types.type_number u ts) us) ns
numbers_are us ns (fails q) = false

abbrev uses_are : List ℕ → Answer (List (Syntax.Rec Identifier)) → Bool
uses_are ns (ok rs) = same_bytes (map (λ u. u.0) (Types.uses (Deinline.deinline rs))) ns
uses_are ns (fails q) = false

abbrev refused_by : ℕ → ℕ → Answer (List (Syntax.Rec Identifier)) → Bool
refused_by n r (ok rs) = false
refused_by n r (fails q) = eqb q.number n && eqb q.rec r

abbrev holds : Sample → Bool
holds (assembles stream count bytes) = says (assembled stream) 0 count count bytes
holds (assembles_names stream count bytes names) = says (assembled_names stream) 0 count count (bytes ++ names)
holds (refuses stream n r) = says (assembled stream) n r r []
holds (refuses_after stream n r q) = says (assembled stream) n r q []
holds (refuses_strict stream n r) = says (assembled_strict stream) n r r [] && eqb (assembled stream).number 0
holds (refuses_both stream n m r) = says (assembled stream) n r r [] && says (assembled_strict stream) m r r []
holds (assembles_strict stream count bytes) = says (assembled_strict stream) 0 count count bytes && says (assembled stream) 0 count count bytes
holds (groups n bs) = same_bytes (Binary.u n) bs
holds (signed_groups z bs) = same_bytes (Binary.s z) bs
holds (labelled blocks x a) = depth_is (Names.depth_of empty_scope blocks 0 x) a
holds (interned ds us ns) = numbers_are us ns (Types.intern ds (map (λ u. (0, u)) us))
holds (types_take ts n) = eqb (Binary.types_size ts) n
holds (uses stream ns) = uses_are ns (Read.read stream)
holds (passes_ceiling count stream n) = refused_by n count (Read.records count 0 Read.nothing_seen stream 0)

abbrev every : List Sample → Bool
every [] = true
every (x ∷ xs) = holds x && every xs

-- ## Records, for streams that are easier to read

-- an own function with no identifier, exports, type or locals; its body follows
abbrev function : Bytes
function = 0x03 ∷ 0x00 ∷ 0x00 ∷ 0x00 ∷ 0x00 ∷ 0x00 ∷ 0x00 ∷ 0x00 ∷ []

-- a block with no parameters and no results; its end, which repeats no label; a branch; the body's end
abbrev block : Identifier → Bytes
block l = 0x02 ∷ length l ∷ l ++ (0x00 ∷ 0x00 ∷ 0x00 ∷ [])

abbrev end : Bytes
end = 0x0B ∷ 0x00 ∷ []

abbrev br : Identifier → Bytes
br l = 0x0C ∷ 0x02 ∷ length l ∷ l

-- a loop and an if with no parameters and no results, and an else
abbrev loop' : Bytes
loop' = 0x03 ∷ 0x00 ∷ 0x00 ∷ 0x00 ∷ 0x00 ∷ []

abbrev if' : Bytes
if' = 0x04 ∷ 0x00 ∷ 0x00 ∷ 0x00 ∷ 0x00 ∷ []

abbrev else' : Bytes
else' = 0x05 ∷ 0x00 ∷ []

-- two memories with a minimum of 0
abbrev two_memories : Bytes
two_memories = 0x05 ∷ 0x00 ∷ 0x00 ∷ 0x00 ∷ 0x00 ∷ 0x00 ∷ 0x05 ∷ 0x00 ∷ 0x00 ∷ 0x00 ∷ 0x00 ∷ 0x00 ∷ []

abbrev br_number : ℕ → Bytes
br_number n = 0x0C ∷ 0x01 ∷ n ∷ []

abbrev body_end : Bytes
body_end = 0xFF ∷ []

-- an operator with its own operands, folded, and its folded operands
abbrev fold : Bytes → List Bytes → Bytes
fold op xs = 0xF0 ∷ op ++ (length xs ∷ concat_map (λ x. x) xs)

-- nops that wait for one operand each, one in the other; and with a last one, so many deep
abbrev waiting : ℕ → Bytes
waiting n = concat_map {A = ℕ} (λ _. 0xF0 ∷ 0x01 ∷ 0x01 ∷ []) (replicate n 0)

abbrev nested : ℕ → Bytes
nested n = waiting (n - 1) ++ (0xF0 ∷ 0x01 ∷ 0x00 ∷ [])

abbrev i32_const : ℕ → Bytes
i32_const n = 0x41 ∷ n ∷ []

-- a local by its identifier
abbrev local_get : Identifier → Bytes
local_get l = 0x20 ∷ 0x02 ∷ length l ∷ l

abbrev local_set : Identifier → Bytes
local_set l = 0x21 ∷ 0x02 ∷ length l ∷ l

-- a call_indirect with no table index, of a type with one parameter and no results
abbrev call_indirect : ℕ → Bytes
call_indirect t = 0x11 ∷ 0x00 ∷ 0x00 ∷ 0x01 ∷ 0x00 ∷ t ∷ 0x00 ∷ []

-- a table of its own with a minimum of 0
abbrev table : Identifier → Bytes
table l = 0x04 ∷ length l ∷ l ++ (0x00 ∷ 0x00 ∷ 0x70 ∷ 0x00 ∷ 0x00 ∷ [])

-- the preamble, and with it the sections of one function of type [] → [], up to its code
abbrev S1 : Bytes
S1 = 0x00 ∷ 0x61 ∷ 0x73 ∷ 0x6D ∷ 0x01 ∷ 0x00 ∷ 0x00 ∷ 0x00 ∷ []

abbrev one_function : Bytes
one_function = S1 ++ (0x01 ∷ 0x04 ∷ 0x01 ∷ 0x60 ∷ 0x00 ∷ 0x00 ∷ 0x03 ∷ 0x02 ∷ 0x01 ∷ 0x00 ∷ [])

-- ## The samples' parts

abbrev a : Identifier
a = 0x61 ∷ []

abbrev b : Identifier
b = 0x62 ∷ []

abbrev c : Identifier
c = 0x63 ∷ []

-- open from outside in: a, b, unnamed, a
abbrev S5 : List (Option Identifier)
S5 = some a ∷ none ∷ some b ∷ some a ∷ []

abbrev s5_blocks : Bytes → Bytes
s5_blocks inside = function ++ block a ++ block b ++ block [] ++ block a ++ inside ++ end ++ end ++ end ++ end ++ body_end

abbrev takes : List ℕ → FuncType
takes ps = record { params = ps; results = [] }

-- nine groups of a number whose tenth follows
abbrev nine_full : Bytes
nine_full = 0xFF ∷ 0xFF ∷ 0xFF ∷ 0xFF ∷ 0xFF ∷ 0xFF ∷ 0xFF ∷ 0xFF ∷ 0xFF ∷ []

-- a declared type with these parameters and no results, and an own function that uses one without index
abbrev type_of : Bytes → Bytes
type_of ps = 0x01 ∷ 0x00 ∷ length ps ∷ ps ++ (0x00 ∷ [])

abbrev function_of : Bytes → Bytes
function_of ps = 0x03 ∷ 0x00 ∷ 0x00 ∷ 0x00 ∷ 0x00 ∷ length ps ∷ concat_map (λ t. 0x00 ∷ t ∷ []) ps ++ (0x00 ∷ 0x00 ∷ 0xFF ∷ [])

abbrev S6 : Bytes
S6 = type_of (0x7F ∷ []) ++ type_of [] ++ type_of (0x7F ∷ []) ++ function_of (0x7F ∷ []) ++ function_of (0x7E ∷ []) ++ function_of [] ++ function_of (0x7E ∷ [])

-- in the function section stand 0, 3, 1, 3
abbrev s6_module : Bytes
s6_module =
    S1
    ++ (0x01 ∷ 0x10 ∷ 0x04 ∷ 0x60 ∷ 0x01 ∷ 0x7F ∷ 0x00 ∷ 0x60 ∷ 0x00 ∷ 0x00 ∷ 0x60 ∷ 0x01 ∷ 0x7F ∷ 0x00 ∷ 0x60 ∷ 0x01 ∷ 0x7E ∷ 0x00 ∷ [])
    ++ (0x03 ∷ 0x05 ∷ 0x04 ∷ 0x00 ∷ 0x03 ∷ 0x01 ∷ 0x03 ∷ [])
    ++ (0x0A ∷ 0x0D ∷ 0x04 ∷ 0x02 ∷ 0x00 ∷ 0x0B ∷ 0x02 ∷ 0x00 ∷ 0x0B ∷ 0x02 ∷ 0x00 ∷ 0x0B ∷ 0x02 ∷ 0x00 ∷ 0x0B ∷ [])

-- the parameter x, and the local that the body gets
abbrev S7 : ℕ → Bytes
S7 x = 0x03 ∷ 0x00 ∷ 0x01 ∷ 0x01 ∷ 0x66 ∷ 0x00 ∷ 0x00 ∷ 0x01 ∷ 0x01 ∷ 0x78 ∷ 0x7F ∷ 0x01 ∷ 0x7F ∷ 0x00 ∷ 0x20 ∷ 0x02 ∷ 0x01 ∷ x ∷ 0xFF ∷ []

abbrev s7_module : Bytes
s7_module = S1 ++ (0x01 ∷ 0x06 ∷ 0x01 ∷ 0x60 ∷ 0x01 ∷ 0x7F ∷ 0x01 ∷ 0x7F ∷ 0x03 ∷ 0x02 ∷ 0x01 ∷ 0x00 ∷ 0x07 ∷ 0x05 ∷ 0x01 ∷ 0x01 ∷ 0x66 ∷ 0x00 ∷ 0x00 ∷ 0x0A ∷ 0x06 ∷ 0x01 ∷ 0x04 ∷ 0x00 ∷ 0x20 ∷ 0x00 ∷ 0x0B ∷ [])

-- the parameters x and y, and the local that the body gets
abbrev second : ℕ → Bytes
second x = 0x03 ∷ 0x00 ∷ 0x00 ∷ 0x00 ∷ 0x00 ∷ 0x02 ∷ 0x01 ∷ 0x78 ∷ 0x7F ∷ 0x01 ∷ 0x79 ∷ 0x7F ∷ 0x01 ∷ 0x7F ∷ 0x00 ∷ 0x20 ∷ 0x02 ∷ 0x01 ∷ x ∷ 0xFF ∷ []

abbrev second_module : Bytes
second_module =
    S1
    ++ (0x01 ∷ 0x0C ∷ 0x02 ∷ 0x60 ∷ 0x01 ∷ 0x7F ∷ 0x01 ∷ 0x7F ∷ 0x60 ∷ 0x02 ∷ 0x7F ∷ 0x7F ∷ 0x01 ∷ 0x7F ∷ 0x03 ∷ 0x03 ∷ 0x02 ∷ 0x00 ∷ 0x01 ∷ [])
    ++ (0x07 ∷ 0x05 ∷ 0x01 ∷ 0x01 ∷ 0x66 ∷ 0x00 ∷ 0x00 ∷ 0x0A ∷ 0x0B ∷ 0x02 ∷ 0x04 ∷ 0x00 ∷ 0x20 ∷ 0x00 ∷ 0x0B ∷ 0x04 ∷ 0x00 ∷ 0x20 ∷ 0x01 ∷ 0x0B ∷ [])

abbrev S8 : Bytes
S8 = 0x01 ∷ 0x00 ∷ 0x02 ∷ 0x7F ∷ 0x7E ∷ 0x00 ∷ 0x03 ∷ 0x00 ∷ 0x00 ∷ 0x00 ∷ 0x01 ∷ 0x00 ∷ 0x00 ∷ 0x00 ∷ 0x01 ∷ 0x01 ∷ 0x6C ∷ 0x7F ∷ 0x20 ∷ 0x02 ∷ 0x01 ∷ 0x6C ∷ 0xFF ∷ []

abbrev s8_module : Bytes
s8_module = S1 ++ (0x01 ∷ 0x06 ∷ 0x01 ∷ 0x60 ∷ 0x02 ∷ 0x7F ∷ 0x7E ∷ 0x00 ∷ 0x03 ∷ 0x02 ∷ 0x01 ∷ 0x00 ∷ 0x0A ∷ 0x08 ∷ 0x01 ∷ 0x06 ∷ 0x01 ∷ 0x01 ∷ 0x7F ∷ 0x20 ∷ 0x02 ∷ 0x0B ∷ [])

-- an imported function g with a parameter y; then S7's function, called f
abbrev called : Bytes
called = 0x02 ∷ 0x00 ∷ 0x00 ∷ 0x00 ∷ 0x01 ∷ 0x67 ∷ 0x00 ∷ 0x01 ∷ 0x01 ∷ 0x79 ∷ 0x7F ∷ 0x00 ∷ 0x03 ∷ 0x01 ∷ 0x66 ∷ 0x01 ∷ 0x01 ∷ 0x66 ∷ 0x00 ∷ 0x00 ∷ 0x01 ∷ 0x01 ∷ 0x78 ∷ 0x7F ∷ 0x01 ∷ 0x7F ∷ 0x00 ∷ 0x20 ∷ 0x02 ∷ 0x01 ∷ 0x78 ∷ 0xFF ∷ []

abbrev called_module : Bytes
called_module = S1 ++ (0x01 ∷ 0x0A ∷ 0x02 ∷ 0x60 ∷ 0x01 ∷ 0x7F ∷ 0x00 ∷ 0x60 ∷ 0x01 ∷ 0x7F ∷ 0x01 ∷ 0x7F ∷ 0x02 ∷ 0x05 ∷ 0x01 ∷ 0x00 ∷ 0x00 ∷ 0x00 ∷ 0x00 ∷ 0x03 ∷ 0x02 ∷ 0x01 ∷ 0x01 ∷ 0x07 ∷ 0x05 ∷ 0x01 ∷ 0x01 ∷ 0x66 ∷ 0x00 ∷ 0x01 ∷ 0x0A ∷ 0x06 ∷ 0x01 ∷ 0x04 ∷ 0x00 ∷ 0x20 ∷ 0x00 ∷ 0x0B ∷ [])

-- loads and stores with their natural exponents
abbrev accesses : List (ℕ × ℕ)
accesses =
    (0x28, 2) ∷ (0x29, 3) ∷ (0x2A, 2) ∷ (0x2B, 3) ∷ (0x2C, 0) ∷ (0x2D, 0)
    ∷ (0x2E, 1) ∷ (0x2F, 1) ∷ (0x30, 0) ∷ (0x31, 0) ∷ (0x32, 1) ∷ (0x33, 1)
    ∷ (0x34, 2) ∷ (0x35, 2) ∷ (0x36, 2) ∷ (0x37, 3) ∷ (0x38, 2) ∷ (0x39, 3)
    ∷ (0x3A, 0) ∷ (0x3B, 1) ∷ (0x3C, 0) ∷ (0x3D, 1) ∷ (0x3E, 2)
    ∷ []

-- ## The table

abbrev samples : List Sample
samples =
    -- S1
    assembles [] 0 S1
    -- S2
    ∷ groups 0 (0x00 ∷ [])
    ∷ groups 127 (0x7F ∷ [])
    ∷ groups 128 (0x80 ∷ 0x01 ∷ [])
    ∷ groups 4294967295 (0xFF ∷ 0xFF ∷ 0xFF ∷ 0xFF ∷ 0x0F ∷ [])
    -- S3
    ∷ signed_groups (pos 63) (0x3F ∷ [])
    ∷ signed_groups (pos 64) (0xC0 ∷ 0x00 ∷ [])
    ∷ signed_groups (negsuc 0) (0x7F ∷ [])
    ∷ signed_groups (negsuc 63) (0x40 ∷ [])
    ∷ signed_groups (negsuc 64) (0xBF ∷ 0x7F ∷ [])
    -- the i32 -1 is read and written, and a bit more refused
    ∷ assembles (function ++ (0x41 ∷ 0xFF ∷ 0xFF ∷ 0xFF ∷ 0xFF ∷ 0x0F ∷ 0x1A ∷ 0xFF ∷ [])) 4 (one_function ++ (0x0A ∷ 0x07 ∷ 0x01 ∷ 0x05 ∷ 0x00 ∷ 0x41 ∷ 0x7F ∷ 0x1A ∷ 0x0B ∷ []))
    ∷ refuses (function ++ (0x41 ∷ 0xFF ∷ 0xFF ∷ 0xFF ∷ 0xFF ∷ 0x10 ∷ 0x1A ∷ 0xFF ∷ [])) 3 1
    -- the widest number, and a bit more; the widest index stays as it is
    ∷ assembles (function ++ (0x42 ∷ nine_full ++ (0x01 ∷ 0x1A ∷ 0xFF ∷ []))) 4 (one_function ++ (0x0A ∷ 0x07 ∷ 0x01 ∷ 0x05 ∷ 0x00 ∷ 0x42 ∷ 0x7F ∷ 0x1A ∷ 0x0B ∷ []))
    ∷ refuses (function ++ (0x42 ∷ nine_full ++ (0x02 ∷ 0x1A ∷ 0xFF ∷ []))) 3 1
    ∷ assembles (function ++ (0x0C ∷ 0x01 ∷ 0xFF ∷ 0xFF ∷ 0xFF ∷ 0xFF ∷ 0x0F ∷ 0xFF ∷ [])) 3 (one_function ++ (0x0A ∷ 0x0A ∷ 0x01 ∷ 0x08 ∷ 0x00 ∷ 0x0C ∷ 0xFF ∷ 0xFF ∷ 0xFF ∷ 0xFF ∷ 0x0F ∷ 0x0B ∷ []))
    -- S5: a is 0, b is 2, c is refused, number 9 stays 9; and the same as streams
    ∷ labelled S5 (named a) (ok 0)
    ∷ labelled S5 (named b) (ok 2)
    ∷ labelled S5 (named c) (refused 14 0)
    ∷ labelled S5 (number 9) (ok 9)
    ∷ assembles (s5_blocks (br a ++ br b ++ br_number 9)) 13
    (one_function ++ (0x0A ∷ 0x16 ∷ 0x01 ∷ 0x14 ∷ 0x00 ∷ 0x02 ∷ 0x40 ∷ 0x02 ∷ 0x40 ∷ 0x02 ∷ 0x40 ∷ 0x02 ∷ 0x40 ∷ 0x0C ∷ 0x00 ∷ 0x0C ∷ 0x02 ∷ 0x0C ∷ 0x09 ∷ 0x0B ∷ 0x0B ∷ 0x0B ∷ 0x0B ∷ 0x0B ∷ []))
    ∷ refuses (s5_blocks (br c)) 14 5
    -- S6
    ∷ interned
    (takes (0x7F ∷ []) ∷ takes [] ∷ takes (0x7F ∷ []) ∷ [])
    (takes (0x7F ∷ []) ∷ takes (0x7E ∷ []) ∷ takes [] ∷ takes (0x7E ∷ []) ∷ [])
    (0 ∷ 3 ∷ 1 ∷ 3 ∷ [])
    -- the same as a stream: three types, four functions
    ∷ assembles S6 11 s6_module
    -- (02 §10) the size of a type section: without types, with S7's, with 127 and with 128
    ∷ types_take [] 0
    ∷ types_take (record { params = 0x7F ∷ []; results = 0x7F ∷ [] } ∷ []) 6
    ∷ types_take (replicate 127 (takes [])) 382
    ∷ types_take (replicate 128 (takes [])) 386
    -- S7, and with the second x made y
    ∷ assembles (S7 0x78) 3 s7_module
    ∷ refuses (S7 0x79) 14 1
    -- a second function after it, with the parameters x and y: y is 1
    ∷ assembles (S7 0x78 ++ second 0x79) 6 second_module
    ∷ refuses (S7 0x78 ++ second 0x7A) 14 4
    -- S8: l is 2
    ∷ assembles S8 4 s8_module
    -- S9
    ∷ assembles (0x05 ∷ 0x00 ∷ 0x00 ∷ 0x02 ∷ 0x00 ∷ 0x03 ∷ 0x61 ∷ 0x62 ∷ 0x63 ∷ []) 1 (S1 ++ (0x05 ∷ 0x04 ∷ 0x01 ∷ 0x01 ∷ 0x01 ∷ 0x01 ∷ 0x0B ∷ 0x09 ∷ 0x01 ∷ 0x00 ∷ 0x41 ∷ 0x00 ∷ 0x0B ∷ 0x03 ∷ 0x61 ∷ 0x62 ∷ 0x63 ∷ []))
    -- a block with no index, no parameter and a single result adds no type
    ∷ assembles (function ++ (0x02 ∷ 0x00 ∷ 0x00 ∷ 0x00 ∷ 0x01 ∷ 0x7F ∷ 0x41 ∷ 0x05 ∷ 0x0B ∷ 0x00 ∷ 0x1A ∷ 0xFF ∷ [])) 6
    (one_function ++ (0x0A ∷ 0x0A ∷ 0x01 ∷ 0x08 ∷ 0x00 ∷ 0x02 ∷ 0x7F ∷ 0x41 ∷ 0x05 ∷ 0x0B ∷ 0x1A ∷ 0x0B ∷ []))
    -- the natural exponents: alignment byte, offset and memory index are 0
    ∷ assembles (function ++ concat_map (λ x. x.0 ∷ 0x00 ∷ 0x00 ∷ 0x00 ∷ []) accesses ++ body_end) 25
    (one_function ++ (0x0A ∷ 0x49 ∷ 0x01 ∷ 0x47 ∷ 0x00 ∷ []) ++ concat_map (λ x. x.0 ∷ x.1 ∷ 0x00 ∷ []) accesses ++ (0x0B ∷ []))
    -- (02 §5) a count, an index and a body's number in more groups than needed; a number of two groups that are
    ∷ refuses (0x01 ∷ 0x00 ∷ 0x80 ∷ 0x00 ∷ 0x00 ∷ []) 19 0
    ∷ refuses (0x08 ∷ 0x01 ∷ 0x80 ∷ 0x00 ∷ []) 19 0
    ∷ refuses (function ++ (0x41 ∷ 0xFF ∷ 0x00 ∷ 0x1A ∷ []) ++ body_end) 19 1
    ∷ assembles (0x08 ∷ 0x01 ∷ 0x80 ∷ 0x01 ∷ []) 1 (S1 ++ (0x08 ∷ 0x02 ∷ 0x80 ∷ 0x01 ∷ []))
    -- 19 before 5: the length 65 in five groups; 3 and 2 before 19: a fifth group with its high bit, and no last group
    ∷ refuses (0x01 ∷ 0xC1 ∷ 0x80 ∷ 0x80 ∷ 0x80 ∷ 0x00 ∷ 0x00 ∷ 0x00 ∷ []) 19 0
    ∷ refuses (0x01 ∷ 0xC1 ∷ 0x80 ∷ 0x80 ∷ 0x80 ∷ 0x80 ∷ 0x00 ∷ 0x00 ∷ 0x00 ∷ []) 3 0
    ∷ refuses (0x01 ∷ 0xC1 ∷ 0x80 ∷ []) 2 0
    -- (02 §3) an else in an if in an if, then that of the outer one, after a block inside it has closed
    ∷ assembles (function ++ if' ++ if' ++ else' ++ end ++ block [] ++ end ++ else' ++ end ++ body_end) 10
    (one_function ++ (0x0A ∷ 0x0F ∷ 0x01 ∷ 0x0D ∷ 0x00 ∷ 0x04 ∷ 0x40 ∷ 0x04 ∷ 0x40 ∷ 0x05 ∷ 0x0B ∷ 0x02 ∷ 0x40 ∷ 0x0B ∷ 0x05 ∷ 0x0B ∷ 0x0B ∷ []))
    -- none in a block, in a loop, twice, in a block inside an if, outside; 8 stands at the opcode, before a label that is cut short
    ∷ refuses (function ++ block [] ++ else') 8 2
    ∷ refuses (function ++ loop' ++ else') 8 2
    ∷ refuses (function ++ if' ++ else' ++ else') 8 3
    ∷ refuses (function ++ if' ++ block [] ++ else') 8 3
    ∷ refuses (function ++ if' ++ if' ++ else' ++ end ++ else' ++ else') 8 6
    ∷ refuses (function ++ else') 8 1
    ∷ refuses (function ++ block [] ++ (0x05 ∷ [])) 8 2
    -- (02 §6) a memory a, a table a, a type a, a table b, a table a: the first holder is at record 1. The last of three holders is
    -- refused before the third. Two parameters x of the second function: its own record twice
    ∷ refuses_after ((0x05 ∷ 0x01 ∷ 0x61 ∷ 0x00 ∷ 0x00 ∷ 0x00 ∷ 0x00 ∷ []) ++ table a ++ (0x01 ∷ 0x01 ∷ 0x61 ∷ 0x00 ∷ 0x00 ∷ []) ++ table b ++ table a) 13 4 1
    ∷ refuses_after (S7 0x78 ++ (0x03 ∷ 0x00 ∷ 0x00 ∷ 0x00 ∷ 0x00 ∷ 0x02 ∷ 0x01 ∷ 0x78 ∷ 0x7F ∷ 0x01 ∷ 0x78 ∷ 0x7F ∷ 0x00 ∷ 0x00 ∷ 0xFF ∷ [])) 13 3 3
    -- (02 §8) a strict call: S7; a branch to the function's own label, and one past it; S5 with 9; a local where there is none; a start without functions; a
    -- load without memories; an element segment with no table index and no table; a type past the last, in a use with an index only, and in
    -- one with parameters, where 15 is not given
    ∷ assembles_strict (S7 0x78) 3 s7_module
    ∷ assembles_strict (function ++ block [] ++ br_number 1 ++ end ++ body_end) 5 (one_function ++ (0x0A ∷ 0x09 ∷ 0x01 ∷ 0x07 ∷ 0x00 ∷ 0x02 ∷ 0x40 ∷ 0x0C ∷ 0x01 ∷ 0x0B ∷ 0x0B ∷ []))
    ∷ refuses_strict (function ++ block [] ++ br_number 2 ++ end ++ body_end) 20 2
    ∷ refuses_strict (s5_blocks (br a ++ br b ++ br_number 9)) 20 7
    ∷ refuses_strict (function ++ (0x20 ∷ 0x01 ∷ 0x00 ∷ []) ++ body_end) 20 1
    ∷ refuses_strict (0x08 ∷ 0x01 ∷ 0x00 ∷ []) 20 0
    ∷ refuses_strict (function ++ (0x28 ∷ 0x00 ∷ 0x00 ∷ 0x00 ∷ []) ++ body_end) 20 1
    ∷ refuses_strict (0x09 ∷ 0x00 ∷ 0x01 ∷ 0x00 ∷ 0x00 ∷ 0x00 ∷ 0x00 ∷ []) 20 0
    ∷ refuses_strict (0x03 ∷ 0x00 ∷ 0x00 ∷ 0x00 ∷ 0x01 ∷ 0x00 ∷ 0x00 ∷ 0x00 ∷ 0x00 ∷ 0xFF ∷ []) 20 0
    ∷ refuses_both (0x03 ∷ 0x00 ∷ 0x00 ∷ 0x00 ∷ 0x01 ∷ 0x00 ∷ 0x01 ∷ 0x00 ∷ 0x7F ∷ 0x00 ∷ 0x00 ∷ 0xFF ∷ []) 15 20 0
    -- (02 §11) data d and two memories; memory.init d on memory 1, data.drop 0, memory.copy 1 0, memory.fill: section 12 says one segment
    ∷ assembles (two_memories ++ (0x0A ∷ 0x01 ∷ 0x64 ∷ 0x00 ∷ 0x01 ∷ 0x61 ∷ []) ++ function
    ++ (0xFC ∷ 0x08 ∷ 0x02 ∷ 0x01 ∷ 0x64 ∷ 0x01 ∷ 0x01 ∷ 0xFC ∷ 0x09 ∷ 0x01 ∷ 0x00 ∷ 0xFC ∷ 0x0A ∷ 0x01 ∷ 0x01 ∷ 0x00 ∷ 0xFC ∷ 0x0B ∷ 0x00 ∷ []) ++ body_end) 9
    (one_function ++ (0x05 ∷ 0x05 ∷ 0x02 ∷ 0x00 ∷ 0x00 ∷ 0x00 ∷ 0x00 ∷ 0x0C ∷ 0x01 ∷ 0x01
    ∷ 0x0A ∷ 0x12 ∷ 0x01 ∷ 0x10 ∷ 0x00 ∷ 0xFC ∷ 0x08 ∷ 0x00 ∷ 0x01 ∷ 0xFC ∷ 0x09 ∷ 0x00 ∷ 0xFC ∷ 0x0A ∷ 0x01 ∷ 0x00 ∷ 0xFC ∷ 0x0B ∷ 0x00 ∷ 0x0B
    ∷ 0x0B ∷ 0x04 ∷ 0x01 ∷ 0x01 ∷ 0x01 ∷ 0x61 ∷ []))
    -- without the two that name data there is no section 12; with one and no data segment there is; another second byte, an absent data index, no such data
    ∷ assembles (function ++ (0xFC ∷ 0x0B ∷ 0x00 ∷ []) ++ body_end) 3 (one_function ++ (0x0A ∷ 0x07 ∷ 0x01 ∷ 0x05 ∷ 0x00 ∷ 0xFC ∷ 0x0B ∷ 0x00 ∷ 0x0B ∷ []))
    ∷ assembles (function ++ (0xFC ∷ 0x09 ∷ 0x01 ∷ 0x07 ∷ []) ++ body_end) 3 (one_function ++ (0x0C ∷ 0x01 ∷ 0x00 ∷ 0x0A ∷ 0x07 ∷ 0x01 ∷ 0x05 ∷ 0x00 ∷ 0xFC ∷ 0x09 ∷ 0x07 ∷ 0x0B ∷ []))
    ∷ refuses (function ++ (0xFC ∷ 0x0C ∷ [])) 4 1
    ∷ refuses (function ++ (0xFC ∷ 0x09 ∷ 0x00 ∷ [])) 4 1
    ∷ refuses (function ++ (0xFC ∷ 0x08 ∷ 0x02 ∷ 0x01 ∷ 0x64 ∷ 0x00 ∷ []) ++ body_end) 14 1
    -- a strict call: data 0 where there is none, and a memory that is not named where there is none
    ∷ refuses_strict (function ++ (0xFC ∷ 0x09 ∷ 0x01 ∷ 0x00 ∷ []) ++ body_end) 20 1
    ∷ refuses_strict (function ++ (0xFC ∷ 0x0A ∷ 0x00 ∷ 0x00 ∷ []) ++ body_end) 20 1
    -- (02 §4) i32.store (i32.add (i32.const 1) (i32.const 2)) (i32.const 3), and drop of memory.fill: operands first, then the operator; with no
    -- operands the operator alone
    ∷ assembles (function ++ fold (0x36 ∷ 0x00 ∷ 0x00 ∷ 0x00 ∷ []) (fold (0x6A ∷ []) (fold (i32_const 1) [] ∷ fold (i32_const 2) [] ∷ []) ∷ fold (i32_const 3) [] ∷ [])
    ++ fold (0x1A ∷ []) (fold (0xFC ∷ 0x0B ∷ 0x00 ∷ []) [] ∷ []) ++ fold (i32_const 4) [] ++ body_end) 10
    (one_function ++ (0x0A ∷ 0x14 ∷ 0x01 ∷ 0x12 ∷ 0x00 ∷ 0x41 ∷ 0x01 ∷ 0x41 ∷ 0x02 ∷ 0x6A ∷ 0x41 ∷ 0x03 ∷ 0x36 ∷ 0x02 ∷ 0x00 ∷ 0xFC ∷ 0x0B ∷ 0x00 ∷ 0x1A ∷ 0x41 ∷ 0x04 ∷ 0x0B ∷ []))
    -- resolving goes in flat order: the operand's fault at record 2 before its operator's at 1, and of two operands the left one's
    ∷ refuses (function ++ fold (local_set a) (fold (local_get b) [] ∷ []) ++ body_end) 14 2
    ∷ refuses (function ++ fold (local_set a) (fold (0x6A ∷ []) (fold (local_get b) [] ∷ fold (local_get c) [] ∷ []) ∷ []) ++ body_end) 14 3
    -- types are added in flat order, each at its own record
    ∷ uses (function ++ fold (call_indirect 0x7E) (fold (call_indirect 0x7D) (fold (call_indirect 0x7F) [] ∷ []) ∷ fold (call_indirect 0x7C) [] ∷ []) ++ call_indirect 0x7F ++ body_end)
    (0 ∷ 3 ∷ 2 ∷ 4 ∷ 1 ∷ 5 ∷ [])
    ∷ assembles (function ++ fold (call_indirect 0x7E) (fold (call_indirect 0x7F) [] ∷ []) ++ body_end) 4
    (S1 ++ (0x01 ∷ 0x0C ∷ 0x03 ∷ 0x60 ∷ 0x00 ∷ 0x00 ∷ 0x60 ∷ 0x01 ∷ 0x7F ∷ 0x00 ∷ 0x60 ∷ 0x01 ∷ 0x7E ∷ 0x00 ∷ 0x03 ∷ 0x02 ∷ 0x01 ∷ 0x00 ∷ 0x0A ∷ 0x0A ∷ 0x01 ∷ 0x08 ∷ 0x00 ∷ 0x11 ∷ 0x01 ∷ 0x00 ∷ 0x11 ∷ 0x02 ∷ 0x00 ∷ 0x0B ∷ []))
    -- a barred operator: block, loop, if, else, end, FF, F0; 8 is not asked. No opcode; no operator; no count
    ∷ refuses (function ++ (0xF0 ∷ 0x02 ∷ [])) 4 1
    ∷ refuses (function ++ (0xF0 ∷ 0x03 ∷ [])) 4 1
    ∷ refuses (function ++ (0xF0 ∷ 0x04 ∷ [])) 4 1
    ∷ refuses (function ++ (0xF0 ∷ 0x05 ∷ [])) 4 1
    ∷ refuses (function ++ (0xF0 ∷ 0x0B ∷ [])) 4 1
    ∷ refuses (function ++ (0xF0 ∷ 0xFF ∷ [])) 4 1
    ∷ refuses (function ++ (0xF0 ∷ 0xF0 ∷ [])) 4 1
    ∷ refuses (function ++ (0xF0 ∷ 0x06 ∷ [])) 4 1
    ∷ refuses (function ++ (0xF0 ∷ [])) 2 1
    ∷ refuses (function ++ (0xF0 ∷ 0x1A ∷ [])) 2 1
    -- 16 operands, and 17 at the count's last byte, after 19
    ∷ assembles (function ++ fold (0x1A ∷ []) (replicate 16 (nested 1)) ++ body_end) 19 (one_function ++ (0x0A ∷ 0x15 ∷ 0x01 ∷ 0x13 ∷ 0x00 ∷ []) ++ replicate 16 0x01 ++ (0x1A ∷ 0x0B ∷ []))
    ∷ refuses (function ++ (0xF0 ∷ 0x1A ∷ 0x11 ∷ [])) 7 1
    ∷ refuses (function ++ (0xF0 ∷ 0x1A ∷ 0x91 ∷ 0x00 ∷ [])) 19 1
    -- where an operand is due, a nop, an else and FF at the next record's number, and the stream's end
    ∷ refuses (function ++ waiting 1 ++ (0x01 ∷ [])) 4 2
    ∷ refuses (function ++ waiting 1 ++ (0x05 ∷ [])) 4 2
    ∷ refuses (function ++ waiting 1 ++ body_end) 4 2
    ∷ refuses (function ++ waiting 2) 2 3
    ∷ refuses (function ++ fold (0x6A ∷ []) (nested 2 ∷ (0x01 ∷ []) ∷ [])) 4 4
    -- nested 32 deep, in both operands; and once more, in the first and in the second, at the number that it would have
    ∷ assembles (function ++ fold (0x01 ∷ []) (nested 31 ∷ nested 31 ∷ []) ++ body_end) 65 (one_function ++ (0x0A ∷ 0x43 ∷ 0x01 ∷ 0x41 ∷ 0x00 ∷ []) ++ replicate 63 0x01 ++ (0x0B ∷ []))
    ∷ refuses (function ++ waiting 32 ++ (0xF0 ∷ [])) 7 33
    ∷ refuses (function ++ fold (0x01 ∷ []) (nested 31 ∷ waiting 31 ∷ []) ++ (0xF0 ∷ [])) 7 64
    -- one record too many: 7, and 4 where no record may begin so; no F0 outside a body
    ∷ passes_ceiling 1 (function ++ (0xF0 ∷ [])) 7
    ∷ passes_ceiling 1 (function ++ (0x06 ∷ [])) 4
    ∷ passes_ceiling 2 (function ++ waiting 1 ++ (0xF0 ∷ [])) 7
    ∷ passes_ceiling 2 (function ++ waiting 1 ++ (0x01 ∷ [])) 4
    ∷ passes_ceiling 2 (function ++ waiting 1 ++ body_end) 4
    ∷ refuses (0xF0 ∷ []) 4 0
    -- no name, no section
    ∷ assembles_names [] 0 S1 []
    -- S7's parameter x is 0, and its function has no identifier; S8's l is 2
    ∷ assembles_names (S7 0x78) 3 s7_module (0x00 ∷ 0x0D ∷ 0x04 ∷ 0x6E ∷ 0x61 ∷ 0x6D ∷ 0x65 ∷ 0x02 ∷ 0x06 ∷ 0x01 ∷ 0x00 ∷ 0x01 ∷ 0x00 ∷ 0x01 ∷ 0x78 ∷ [])
    ∷ assembles_names S8 4 s8_module (0x00 ∷ 0x0D ∷ 0x04 ∷ 0x6E ∷ 0x61 ∷ 0x6D ∷ 0x65 ∷ 0x02 ∷ 0x06 ∷ 0x01 ∷ 0x00 ∷ 0x01 ∷ 0x02 ∷ 0x01 ∷ 0x6C ∷ [])
    -- g is 0, f is 1, and of parameters only f's x is named
    ∷ assembles_names called 4 called_module (0x00 ∷ 0x16 ∷ 0x04 ∷ 0x6E ∷ 0x61 ∷ 0x6D ∷ 0x65 ∷ 0x01 ∷ 0x07 ∷ 0x02 ∷ 0x00 ∷ 0x01 ∷ 0x67 ∷ 0x01 ∷ 0x01 ∷ 0x66 ∷ 0x02 ∷ 0x06 ∷ 0x01 ∷ 0x01 ∷ 0x01 ∷ 0x00 ∷ 0x01 ∷ 0x78 ∷ [])
    ∷ []

pub samples_hold : every samples ≡ true
unfolding Basic.◌>>=◌ Basic.each Basic.concat_map Basic.any Basic.same Basic.same_bytes Basic.first_at Basic.at Basic.is_some Basic.between
    Spaces.extern_space Spaces.own_space Spaces.source_space Spaces.segments Spaces.brings Spaces.count Reader.byte Reader.many Token.needed
    Token.groups Token.u32 Token.u64 Token.up_to Token.counted Token.idchar Token.id_byte Token.identifier Token.identifier₁ Token.string_byte
    Token.string Token.bytes Token.is_ref Token.is_val Token.val_type Token.ref_type Token.flag Token.flag64 Token.bound Token.maximum
    Token.limits_of Token.limits Token.table_type Token.global_type Token.number_index Token.named_index Token.present Token.optional
    Token.param Token.type_use Instructions.opcodes Instructions.form_in Instructions.form_of Instructions.naturals Instructions.exponent
    Instructions.alignment Instructions.bulks Instructions.spaces_in Instructions.spaces_of Instructions.index_in Instructions.indices Instructions.plain_of Instructions.constant Instructions.instruction Instructions.is_open
    Instructions.may_else Instructions.admits Instructions.opened Instructions.elsed Instructions.open_after Instructions.inside_after
    Instructions.complete Instructions.awaiting Instructions.folded_after Instructions.unfolded_rec Instructions.may_fold Instructions.operator Instructions.fold Instructions.folded_rec
    Instructions.is_due Instructions.body_rec Instructions.body_begins Records.import_name
    Records.func_extern Records.table_extern Records.mem_extern Records.global_extern Records.import_of Records.import_rec Records.item_rec
    Records.import_form Records.own_func_form Records.func_rec Records.own_table_form Records.inline_table_form Records.table_rec
    Records.own_mem_form Records.inline_mem_form Records.mem_rec Records.own_global_form Records.global_rec Records.type_rec Records.kind
    Records.export_rec Records.start_rec Records.active_mode Records.mode Records.elem_rec Records.data_rec Records.field_recs Records.field_rec Records.field_begins
    Read.nothing_seen Read.room Read.own_body Read.source_body Read.field_body Read.is_start Read.body_after Read.items_after
    Read.started_after Read.seen_after Read.one_record Read.records Read.read Folded.follow Folded.still Folded.flatten Folded.body_of Deinline.exactly Deinline.pages Deinline.zero_offset
    Deinline.source_fields Deinline.fields_of Deinline.deinline_from Deinline.deinline Deinline.imports_from
    Deinline.import_order Types.signature Types.same_type Types.type_at Types.type_number Types.is_inline Types.is_short Types.use_of
    Types.instr_uses Types.body_uses Types.extern_uses Types.own_uses Types.field_uses Types.uses Types.declared_by Types.declared Types.intern
    Types.all_types Names.find Names.taken Names.distinct Names.space Names.definers Names.holder Names.item_of Names.register Names.below Names.number_in Names.is_absent
    Names.param_names Names.locals_of Names.blocks_after Names.count_in Names.item_no Names.checked Names.type_no_of Names.type_no Names.block_type Names.local_no
    Names.depth_of Names.immediate Names.plain_op Names.const_op Names.closes Names.instr_op Names.body Names.distinct_locals Names.own_item
    Names.extern_no Names.table_no Names.mode_of Names.resolve Names.resolve_all Binary.unsigned Binary.u Binary.low7 Binary.over128
    Binary.fits7 Binary.signed Binary.s Binary.integer Binary.vec Binary.sized Binary.byte Binary.func_type Binary.limits Binary.table_type
    Binary.global_type Binary.extern_type Binary.block_type Binary.memarg Binary.imm Binary.instruction Binary.expr Binary.runs Binary.run
    Binary.types_size Binary.func_code Binary.elem Binary.data' Binary.entries Binary.in_section Binary.imm_names_data Binary.names_data Binary.data_count Binary.joined Binary.content Binary.section Binary.preamble
    Binary.section_numbers Binary.sections Binary.module' NameSection.named_from NameSection.imported_function NameSection.own_function
    NameSection.function_in NameSection.functions NameSection.local_names_from NameSection.name_assoc NameSection.indirect_name_assoc
    NameSection.subsections NameSection.section_name NameSection.name_section Assemble.scope Assemble.items_in Assemble.items Assemble.resolved
    Assemble.fitting Assemble.module_in Assemble.named_module_in Assemble.say Assemble.say_read Assemble.assemble_by Assemble.assemble_strict Assemble.assemble
    Assemble.assemble_names
samples_hold = refl
