-- The binary format (the standard, chapter 5): a module's items to bytes, every length and index in its shortest form.
use Rattle.std.specs.Prelude.{ℕ, zero, suc, ◌+◌, ◌-◌, ◌/◌, ◌%◌, ◌^◌, Bool, false, ◌||◌, List, [], ◌∷◌, ◌++◌, map, eqb, ltb, length, ℤ, pos, negsuc, if◌then◌else◌}
use Rattle.std.proofs.Math.Option.{Option, none, some}
use Rattle.definition.specs.Basic.{concat_map, any}
use Rattle.definition.specs.Syntax.{ValType, Bytes, code, FuncType, Limits, TableType, GlobalType, ExternType, func, table, mem, global, Mode, passive, active}
use Rattle.definition.specs.Syntax.{TypeNo, BlockType, empty, single, typed, Op}
use Rattle.definition.specs.Syntax.{Imm, no_imm, block_imm, label_imm, labels_imm, local_imm, item_imm, items_imm, indirect_imm, access_imm, int32_imm, int64_imm, raw_imm}
use Rattle.definition.specs.Syntax.{Item, type_i, import_i, func_i, table_i, mem_i, global_i, export_i, start_i, elem_i, data_i}

-- ## 5.2.2 Integers: LEB128

-- the shortest groups of a number, `more` + 1 of them at most
unfoldable pub unsigned : ℕ → ℕ → Bytes
unsigned zero n = n ∷ []
unsigned (suc more) n = if ltb n 128 then n ∷ [] else (n % 128 + 128) ∷ unsigned more (n / 128)

-- ten groups hold every number below 2 ^ 70, so every u64
unfoldable pub u : ℕ → Bytes
u n = unsigned 9 n

-- an integer's low seven bits, and the integer divided by 128 rounding down: `negsuc n` is −(n + 1)
unfoldable pub low7 : ℤ → ℕ
low7 (pos n) = n % 128
low7 (negsuc n) = 127 - n % 128

unfoldable pub over128 : ℤ → ℤ
over128 (pos n) = pos (n / 128)
over128 (negsuc n) = negsuc (n / 128)

-- from −64 to 63
unfoldable pub fits7 : ℤ → Bool
fits7 (pos n) = ltb n 64
fits7 (negsuc n) = ltb n 64

-- the shortest signed groups of an integer, `more` + 1 of them at most
unfoldable pub signed : ℕ → ℤ → Bytes
signed zero z = low7 z ∷ []
signed (suc more) z = if fits7 z then low7 z ∷ [] else (low7 z + 128) ∷ signed more (over128 z)

-- ten groups hold every integer from −2 ^ 69 to 2 ^ 69 − 1, so every s33 and every i64
unfoldable pub s : ℤ → Bytes
s z = signed 9 z

-- the integer that a pattern of bits is in two's complement
unfoldable pub integer : ℕ → ℕ → ℤ
integer bits n = if ltb n (2 ^ (bits - 1)) then pos n else negsuc (2 ^ bits - 1 - n)

-- ## 5.1.3 Vectors, 5.2.4 Names

-- the count, and the elements
unfoldable pub vec : {A : Type 0} → (A → Bytes) → List A → Bytes
vec f xs = u (length xs) ++ concat_map f xs

-- bytes with their length before them: a name, a section's content, a function's code
unfoldable pub sized : Bytes → Bytes
sized bs = u (length bs) ++ bs

unfoldable pub byte : ℕ → Bytes
byte b = b ∷ []

-- ## 5.3 Types

unfoldable pub func_type : FuncType → Bytes
func_type t = 0x60 ∷ vec byte t.params ++ vec byte t.results

abbrev pub limits_of : ℕ → ℕ → Option ℕ → Bytes
limits_of wide low none = wide ∷ u low
limits_of wide low (some high) = (wide + 1) ∷ u low ++ u high

unfoldable pub limits : Limits → Bytes
limits l = limits_of (if l.is64 then 4 else 0) l.minimum l.maximum

unfoldable pub table_type : TableType → Bytes
table_type t = t.element ∷ limits t.limits

unfoldable pub global_type : GlobalType → Bytes
global_type t = t.value ∷ t.mutable ∷ []

unfoldable pub extern_type : ExternType TypeNo → Bytes
extern_type (func n) = 0x00 ∷ u n.type_no
extern_type (table t) = 0x01 ∷ table_type t
extern_type (mem l) = 0x02 ∷ limits l
extern_type (global t) = 0x03 ∷ global_type t

-- ## 5.4 Instructions

-- a type's number is a positive s33
unfoldable pub block_type : BlockType → Bytes
block_type empty = 0x40 ∷ []
block_type (single t) = t ∷ []
block_type (typed n) = s (pos n.type_no)

-- on memory 0 no memory index; on another, 64 is added to the exponent and the index follows
unfoldable pub memarg : ℕ → ℕ → ℕ → Bytes
memarg e o m = if eqb m 0 then u e ++ u o else u (e + 64) ++ u m ++ u o

unfoldable pub imm : Imm → Bytes
imm no_imm = []
imm (block_imm b) = block_type b
imm (label_imm d) = u d.depth
imm (labels_imm ds d) = vec (λ x. u x.depth) ds ++ u d.depth
imm (local_imm n) = u n.local_no
imm (item_imm n) = u n
imm (items_imm b ns) = u b ++ concat_map u ns
imm (indirect_imm y x) = u y.type_no ++ u x
imm (access_imm e o m) = memarg e o m
imm (int32_imm n) = s (integer 32 n)
imm (int64_imm n) = s (integer 64 n)
imm (raw_imm bs) = bs

unfoldable pub instruction : Op → Bytes
instruction o = o.opcode ∷ imm o.imm

unfoldable pub expr : List Op → Bytes
expr os = concat_map instruction os ++ (0x0B ∷ [])

-- ## 5.5.13 Code section: a function's locals and body

abbrev pub Runs : Type 0
Runs = List (ℕ × ValType)

abbrev pub join : ValType → Runs → Runs
join t [] = (1, t) ∷ []
join t ((n, x) ∷ rs) = if eqb t x then (n + 1, x) ∷ rs else (1, t) ∷ (n, x) ∷ rs

-- equal neighbouring locals in one run
unfoldable pub runs : List ValType → Runs
runs [] = []
runs (t ∷ ts) = join t (runs ts)

unfoldable pub run : ℕ × ValType → Bytes
run r = u r.0 ++ byte r.1

unfoldable pub func_code : List ValType → List Op → Bytes
func_code ls os = sized (vec run (runs ls) ++ expr os)

-- ## 5.5.12 Element section, 5.5.14 Data section

-- form 1 passive, form 0 active without a table index, form 2 active with one; 00 is the kind funcref
unfoldable pub elem : Mode (Option ℕ) Op → List ℕ → Bytes
elem passive ns = 1 ∷ 0 ∷ vec u ns
elem (active none o) ns = 0 ∷ expr (o ∷ []) ++ vec u ns
elem (active (some t) o) ns = 2 ∷ u t ++ expr (o ∷ []) ++ (0 ∷ vec u ns)

-- form 1 passive, form 0 active on memory 0, form 2 active on another
unfoldable pub data' : Mode ℕ Op → Bytes → Bytes
data' passive d = 1 ∷ sized d
data' (active m o) d = (if eqb m 0 then 0 ∷ [] else 2 ∷ u m) ++ expr (o ∷ []) ++ sized d

-- ## 5.5.2 Sections

-- the entries of an item, each with its section: 5.5.4 types, 5.5.5 imports, 5.5.6 functions, 5.5.7 tables, 5.5.8 memories, 5.5.9 globals,
-- 5.5.10 exports, 5.5.11 start
unfoldable pub entries : Item → List (ℕ × Bytes)
entries (type_i t) = (1, func_type t) ∷ []
entries (import_i n d) = (2, sized n.module_name ++ sized n.item_name ++ extern_type d) ∷ []
entries (func_i n ls os) = (3, u n.type_no) ∷ (10, func_code ls os) ∷ []
entries (table_i t) = (4, table_type t) ∷ []
entries (mem_i l) = (5, limits l) ∷ []
entries (global_i t o) = (6, global_type t ++ expr (o ∷ [])) ∷ []
entries (export_i n k x) = (7, sized n ++ (code k ∷ u x)) ∷ []
entries (start_i x) = (8, u x) ∷ []
entries (elem_i m ns) = (9, elem m ns) ∷ []
entries (data_i m d) = (11, data' m d) ∷ []

unfoldable pub in_section : ℕ → List (ℕ × Bytes) → List Bytes
in_section k [] = []
in_section k ((j, b) ∷ es) = (if eqb k j then b ∷ [] else []) ++ in_section k es

-- ## 5.5.16 Data count section

-- memory.init and data.drop name a data segment
unfoldable pub imm_names_data : Imm → Bool
imm_names_data (items_imm b ns) = eqb b 0x08 || eqb b 0x09
imm_names_data no_imm = false
imm_names_data (block_imm b) = false
imm_names_data (label_imm d) = false
imm_names_data (labels_imm ds d) = false
imm_names_data (local_imm n) = false
imm_names_data (item_imm n) = false
imm_names_data (indirect_imm y x) = false
imm_names_data (access_imm e o m) = false
imm_names_data (int32_imm n) = false
imm_names_data (int64_imm n) = false
imm_names_data (raw_imm bs) = false

unfoldable pub names_data : Item → Bool
names_data (func_i n ls os) = any (λ o. imm_names_data o.imm) os
names_data (type_i t) = false
names_data (import_i n d) = false
names_data (table_i t) = false
names_data (mem_i l) = false
names_data (global_i t o) = false
names_data (export_i n k x) = false
names_data (start_i x) = false
names_data (elem_i m ns) = false
names_data (data_i m d) = false

-- how many data segments there are, where some body names one
unfoldable pub data_count : List Item → List (ℕ × Bytes)
data_count is = if any names_data is then (12, u (length (in_section 11 (concat_map entries is)))) ∷ [] else []

unfoldable pub joined : List Bytes → Bytes
joined es = concat_map (λ e. e) es

-- sections 8 and 12 hold one number and no count
unfoldable pub content : ℕ → List Bytes → Bytes
content k es = if eqb k 8 || eqb k 12 then joined es else u (length es) ++ joined es

-- an empty section is omitted
abbrev pub section_of : ℕ → List Bytes → Bytes
section_of k [] = []
section_of k (e ∷ es) = k ∷ sized (content k (e ∷ es))

unfoldable pub section : List (ℕ × Bytes) → ℕ → Bytes
section es k = section_of k (in_section k es)

-- how long the content of section 1 is where these are the types; 0 where there are none, since no section is written (document 02, §10)
unfoldable pub types_size : List FuncType → ℕ
types_size [] = 0
types_size (t ∷ ts) = length (content 1 (map func_type (t ∷ ts)))

-- ## 5.5.17 Modules

-- the magic "\0asm" and the version 1
unfoldable pub preamble : Bytes
preamble = 0x00 ∷ 0x61 ∷ 0x73 ∷ 0x6D ∷ 0x01 ∷ 0x00 ∷ 0x00 ∷ 0x00 ∷ []

unfoldable pub section_numbers : List ℕ
section_numbers = 1 ∷ 2 ∷ 3 ∷ 4 ∷ 5 ∷ 6 ∷ 7 ∷ 8 ∷ 9 ∷ 12 ∷ 10 ∷ 11 ∷ []

unfoldable pub sections : List Item → Bytes
sections is = concat_map (section (concat_map entries is ++ data_count is)) section_numbers

unfoldable pub module' : List Item → Bytes
module' is = preamble ++ sections is
