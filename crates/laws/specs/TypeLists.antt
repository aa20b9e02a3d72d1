-- No type too many (document 02, §14): which lists of types serve a stream, which of them is the smallest, and what section 1 of a module holds. In
-- document 01's words, and without a word of how the assembler finds its types.
use Rattle.std.specs.Prelude.{ℕ, ◌≤◌, ◌≡◌, ◌&&◌, eqb, leb, length, if◌then◌else◌}
use mathlib.Core.List.{List, [], ◌∷◌, ◌++◌, map, Memᴰ}
use Rattle.std.proofs.Math.Option.{some}
use Rattle.definition.specs.Basic.{ok, concat_map, at}
use Rattle.definition.specs.Syntax.{Bytes, Identifier, FuncType, ExternType, func, table, mem, global, Index, absent, number, named, own_index, TypeUse}
use Rattle.definition.specs.Syntax.{Instr, opens, elses, ends, indirect, plain, Own, own_func, own_table, own_mem, own_global}
use Rattle.definition.specs.Syntax.{Source, own, imported, table_of, mem_of, FieldRec, type_r, import_r, item_r, export_r, start_r, elem_r, data_r, Rec, field, instr, folded, body_end}
use Rattle.definition.specs.Read.{read}
use Rattle.definition.specs.Binary as Binary
use Rattle.definition.specs.Assemble.{Maker}

-- ## The signatures that a stream asks for

-- a use with an index asks for nothing; one without asks for its signature, which without parameters and results is [] → []
abbrev pub asked_by : {I : Type 0} → Index I → FuncType → List FuncType
asked_by absent t = t ∷ []
asked_by (number n) t = []
asked_by (named i) t = []
asked_by (own_index n) t = []

abbrev pub use_asks : {I : Type 0} → TypeUse I → List FuncType
use_asks t = asked_by t.index (record { params = map (λ p. p.type) t.params; results = t.results })

-- a block with no parameters and at most one result asks for nothing
abbrev pub block_asks : {I : Type 0} → TypeUse I → List FuncType
block_asks t = if eqb (length t.params) 0 && leb (length t.results) 1 then [] else use_asks t

-- beside blocks, type uses stand in call_indirect, in imports of functions and in own functions
abbrev pub instr_asks : {I : Type 0} → Instr I → List FuncType
instr_asks (opens op l t) = block_asks t
instr_asks (elses l) = []
instr_asks (ends l) = []
instr_asks (indirect x t) = use_asks t
instr_asks (plain p) = []

abbrev pub extern_asks : {I : Type 0} → ExternType (TypeUse I) → List FuncType
extern_asks (func t) = use_asks t
extern_asks (table t) = []
extern_asks (mem l) = []
extern_asks (global g) = []

abbrev pub own_asks : {I : Type 0} → Own I → List FuncType
own_asks (own_func t ls) = use_asks t
own_asks (own_table t) = []
own_asks (own_mem l) = []
own_asks (own_global t c) = []

abbrev pub source_asks : {I : Type 0} → Source I → List FuncType
source_asks (own o) = own_asks o
source_asks (imported n d) = extern_asks d
source_asks (table_of wide xs) = []
source_asks (mem_of wide d) = []

abbrev pub field_asks : {I : Type 0} → FieldRec I → List FuncType
field_asks (type_r i t) = []
field_asks (import_r n i d) = extern_asks d
field_asks (item_r i es x) = source_asks x
field_asks (export_r n k x) = []
field_asks (start_r x) = []
field_asks (elem_r i m xs) = []
field_asks (data_r i m d) = []

abbrev pub asks : {I : Type 0} → Rec I → List FuncType
asks (field f) = field_asks f
asks (instr x) = instr_asks x
asks (folded x n) = instr_asks x
asks body_end = []

-- one for each use that takes or adds a type, in the order of the records
unfoldable pub asked : {I : Type 0} → List (Rec I) → List FuncType
asked rs = concat_map asks rs

-- ## The types that it declares

abbrev pub field_declares : {I : Type 0} → FieldRec I → List FuncType
field_declares (type_r i t) = t ∷ []
field_declares (import_r n i d) = []
field_declares (item_r i es x) = []
field_declares (export_r n k x) = []
field_declares (start_r x) = []
field_declares (elem_r i m xs) = []
field_declares (data_r i m d) = []

abbrev pub declares : {I : Type 0} → Rec I → List FuncType
declares (field f) = field_declares f
declares (instr x) = []
declares (folded x n) = []
declares body_end = []

-- in their order, each as often as it is declared
unfoldable pub declared_in : {I : Type 0} → List (Rec I) → List FuncType
declared_in rs = concat_map declares rs

-- ## Lists that serve, and the smallest

-- a list that begins with the declared types in order, and holds a signature equal to each that is asked for
pub record Serves {I : Type 0} (rs : List (Rec I)) (ts : List FuncType) : Type 0 where
  pub more : List FuncType
  pub begins : ts ≡ declared_in rs ++ more
  pub holds : (t : FuncType) → Memᴰ t (asked rs) → Memᴰ t ts

-- a list that serves, and none that serves has fewer entries
pub record Smallest {I : Type 0} (rs : List (Rec I)) (ts : List FuncType) : Type 0 where
  pub serves : Serves rs ts
  pub least : (l : List FuncType) → Serves rs l → length ts ≤ length l

-- ## Section 1

-- after the preamble comes section 1 with these types as its entries, left out where there are none, and then no section 1
pub record HoldsTypes (ts : List FuncType) (m : Bytes) : Type 0 where
  pub after : Bytes
  pub is : m ≡ Binary.preamble ++ Binary.section_of 1 (map Binary.func_type ts) ++ after
  pub no_other : at after 0 ≡ some 1 → ⊥

-- the types in section 1 of a module, and no others are in it, are the smallest list
pub record NoTypeTooMany {I : Type 0} (rs : List (Rec I)) (m : Bytes) : Type 0 where
  pub types : List FuncType
  pub held : HoldsTypes types m
  pub only : (ts : List FuncType) → HoldsTypes ts m → ts ≡ types
  pub smallest : Smallest rs types

-- whatever a maker writes of the records of a stream: what each call has to show
abbrev pub WritesSmallest : Maker → Type 0
WritesSmallest make =
    (s : Bytes) (rs : List (Rec Identifier)) → read s ≡ ok rs → (room : ℕ) (m : Bytes) → make room rs ≡ ok m → NoTypeTooMany rs m
