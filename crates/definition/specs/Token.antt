-- The parts that records are made of (document 01, "The record stream"): numbers, identifiers, strings, types, indices, type uses.
use Rattle.std.specs.Prelude.{ℕ, zero, suc, ◌+◌, ◌*◌, ◌%◌, ◌^◌, Bool, true, false, ◌&&◌, ◌||◌, not, List, [], ◌∷◌, eqb, leb, ltb, if◌then◌else◌}
use Rattle.std.proofs.Math.Option.{Option, none, some}
use Rattle.definition.specs.Basic.{between}
use Rattle.definition.specs.Syntax.{ValType, Bytes, Identifier, Limits, TableType, GlobalType, Index, absent, number, named, Local, TypeUse}
use Rattle.definition.specs.Reader.{Reader, ◌>>=◌, ◌>>◌, give, refuse, require, byte, byte_of, many, choose}

-- ## Numbers in groups

-- what a last group must be: the first, or not 0
unfoldable pub needed : ℕ → ℕ → Bool
needed scale b = eqb scale 1 || ltb 0 b

-- A number below `bound` in at most `left` more groups: `value` is what the groups so far say, and `scale` what the next one counts.
-- Refused by 3 at the group that passes the bound or, as the last allowed, has its high bit set; by 19 at a last group that could be
-- left out.
unfoldable pub groups : ℕ → ℕ → ℕ → ℕ → Reader ℕ
groups zero bound scale value = refuse 3
groups (suc left) bound scale value = do
  b ← byte
  let next = value + b % 128 * scale
  require 3 (ltb next bound)
  if ltb b 128 then (require 19 (needed scale b) >> give next) else groups left bound (scale * 128) next

unfoldable pub u32 : Reader ℕ
u32 = groups 5 (2 ^ 32) 1 0

unfoldable pub u64 : Reader ℕ
u64 = groups 10 (2 ^ 64) 1 0

-- a length or a count that is at most its ceiling, refused by `n` past it
unfoldable pub up_to : ℕ → ℕ → Reader ℕ
up_to n ceiling = do
  k ← u32
  require n (leb k ceiling)
  give k

-- a count with its ceiling, refused by 7, and that many
unfoldable pub counted : {A : Type 0} → ℕ → Reader A → Reader (List A)
counted ceiling p = do
  n ← up_to 7 ceiling
  many n p

-- ## Identifiers, strings, data

-- the standard's idchar (6.3.5): printable, and none of the space and " ( ) , ; [ ] { }
unfoldable pub idchar : ℕ → Bool
idchar b = between 0x21 0x7E b
    && not (eqb b 0x22 || eqb b 0x28 || eqb b 0x29 || eqb b 0x2C || eqb b 0x3B || eqb b 0x5B || eqb b 0x5D || eqb b 0x7B || eqb b 0x7D)

unfoldable pub id_byte : Reader ℕ
id_byte = byte_of 5 idchar

-- length 0 means none
unfoldable pub identifier : Reader (Option Identifier)
identifier = do
  n ← up_to 5 64
  cs ← many n id_byte
  give (if eqb n 0 then none else some cs)

-- an identifier of length at least 1, as an index has it
unfoldable pub identifier₁ : Reader Identifier
identifier₁ = do
  n ← up_to 5 64
  require 5 (leb 1 n)
  many n id_byte

unfoldable pub string_byte : Reader ℕ
string_byte = byte_of 6 (between 0x20 0x7E)

unfoldable pub string : Reader Bytes
string = do
  n ← up_to 6 255
  many n string_byte

-- a length and that many bytes; it has no ceiling of its own
unfoldable pub bytes : Reader Bytes
bytes = do
  n ← u32
  many n byte

-- ## Types

unfoldable pub is_ref : ℕ → Bool
is_ref b = eqb b 0x70 || eqb b 0x6F

unfoldable pub is_val : ℕ → Bool
is_val b = between 0x7C 0x7F b || is_ref b

unfoldable pub val_type : Reader ValType
val_type = byte_of 4 is_val

unfoldable pub ref_type : Reader ValType
ref_type = byte_of 4 is_ref

-- the byte 0 or 1
unfoldable pub flag : Reader ℕ
flag = byte_of 4 (λ b. leb b 1)

-- the byte 0, or 4 for 64-bit
unfoldable pub flag64 : Reader Bool
flag64 = byte >>= λ b. choose b ((0, give false) ∷ (4, give true) ∷ [])

-- a minimum or a maximum: u32, or u64 where the limits are 64-bit
unfoldable pub bound : Bool → Reader ℕ
bound wide = if wide then u64 else u32

unfoldable pub maximum : Bool → Bool → Reader (Option ℕ)
maximum has wide = if has then (bound wide >>= λ n. give (some n)) else give none

unfoldable pub limits_of : Bool → Bool → Reader Limits
limits_of has wide = do
  low ← bound wide
  high ← maximum has wide
  give (record { is64 = wide; minimum = low; maximum = high })

-- 1 has maximum, 4 is 64-bit
unfoldable pub limits : Reader Limits
limits = byte >>= λ b. choose b
    ((0, limits_of false false)
    ∷ (1, limits_of true false)
    ∷ (4, limits_of false true)
    ∷ (5, limits_of true true)
    ∷ [])

unfoldable pub table_type : Reader TableType
table_type = do
  t ← ref_type
  l ← limits
  give (record { element = t; limits = l })

unfoldable pub global_type : Reader GlobalType
global_type = do
  t ← val_type
  m ← flag
  give (record { value = t; mutable = m })

-- ## Indices and type uses

unfoldable pub number_index : Reader (Index Identifier)
number_index = u32 >>= λ n. give (number n)

unfoldable pub named_index : Reader (Index Identifier)
named_index = identifier₁ >>= λ i. give (named i)

-- an index that must be present
unfoldable pub present : Reader (Index Identifier)
present = byte >>= λ b. choose b ((1, number_index) ∷ (2, named_index) ∷ [])

-- an index that is marked "optional"
unfoldable pub optional : Reader (Index Identifier)
optional = byte >>= λ b. choose b ((0, give absent) ∷ (1, number_index) ∷ (2, named_index) ∷ [])

-- a parameter or a local
unfoldable pub param : Reader (Local Identifier)
param = do
  i ← identifier
  t ← val_type
  give (record { id = i; type = t })

unfoldable pub type_use : Reader (TypeUse Identifier)
type_use = do
  x ← optional
  ps ← counted 64 param
  rs ← counted 16 val_type
  give (record { index = x; params = ps; results = rs })
