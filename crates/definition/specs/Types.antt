-- Type interning (the crate's types.rs; the abbreviations of the standard, 6.6; refusal 12). The types of a module are the declared ones,
-- wherever they stand, and then those that uses add, in order of use.
use Rattle.std.specs.Prelude.{ℕ, ◌+◌, Bool, ◌&&◌, List, [], ◌∷◌, ◌++◌, map, eqb, leb, ltb, length, if◌then◌else◌}
use Rattle.std.proofs.Math.Option.{Option, none, some}
use Rattle.definition.specs.Basic.{Answer, ok, refused, ◌>>=◌, same_bytes, first_at, some_or}
use Rattle.definition.specs.Syntax.{FuncType, ExternType, func, table, mem, global, Index, absent, number, named, own_index, TypeUse}
use Rattle.definition.specs.Syntax.{Instr, opens, elses, ends, indirect, plain, Own, own_func, own_table, own_mem, own_global}
use Rattle.definition.specs.Syntax.{Body, Field, type_f, import_f, own_f, export_f, start_f, elem_f, data_f}
use Rattle.definition.specs.Deinline.{Numbered}

-- ## Signatures

unfoldable pub signature : {I : Type 0} → TypeUse I → FuncType
signature t = record { params = map (λ p. p.type) t.params; results = t.results }

unfoldable pub same_type : FuncType → FuncType → Bool
same_type s t = same_bytes s.params t.params && same_bytes s.results t.results

-- the place of the first equal signature
unfoldable pub type_at : FuncType → List FuncType → Option ℕ
type_at t ts = first_at (same_type t) ts

-- the number of a signature: that of the first equal one, or else of the next that is added
unfoldable pub type_number : FuncType → List FuncType → ℕ
type_number t ts = some_or (length ts) (type_at t ts)

-- a type use is inline if it has any parameter or result
unfoldable pub is_inline : {I : Type 0} → TypeUse I → Bool
is_inline t = ltb 0 (length t.params + length t.results)

-- a block with no parameters and at most one result has a short form
unfoldable pub is_short : {I : Type 0} → TypeUse I → Bool
is_short t = eqb (length t.params) 0 && leb (length t.results) 1

-- ## The uses of a module, each with its record

-- what a use takes or adds: with an index nothing, without one its signature
abbrev pub unless_indexed : {I : Type 0} → FuncType → Index I → List FuncType
unless_indexed s absent = s ∷ []
unless_indexed s (number n) = []
unless_indexed s (named i) = []
unless_indexed s (own_index n) = []

unfoldable pub use_of : {I : Type 0} → TypeUse I → List FuncType
use_of t = unless_indexed (signature t) t.index

unfoldable pub instr_uses : {I : Type 0} → Instr I → List FuncType
instr_uses (opens op l t) = if is_short t then [] else use_of t
instr_uses (elses l) = []
instr_uses (ends l) = []
instr_uses (indirect x t) = use_of t
instr_uses (plain p) = []

abbrev pub Uses : Type 0
Uses = List (ℕ × FuncType)

abbrev pub used_at : ℕ → List FuncType → Uses
used_at r ts = map (λ t. (r, t)) ts

unfoldable pub body_uses : {I : Type 0} → Body I → Uses
body_uses [] = []
body_uses ((r, x) ∷ xs) = used_at r (instr_uses x) ++ body_uses xs

unfoldable pub extern_uses : {I : Type 0} → ExternType (TypeUse I) → List FuncType
extern_uses (func t) = use_of t
extern_uses (table t) = []
extern_uses (mem l) = []
extern_uses (global g) = []

unfoldable pub own_uses : {I : Type 0} → Own I → List FuncType
own_uses (own_func t ls) = use_of t
own_uses (own_table t) = []
own_uses (own_mem l) = []
own_uses (own_global t c) = []

-- a function's own use before its body
unfoldable pub field_uses : {I : Type 0} → ℕ → Field I → Uses
field_uses r (type_f i t) = []
field_uses r (import_f n i d) = used_at r (extern_uses d)
field_uses r (own_f i o b) = used_at r (own_uses o) ++ body_uses b
field_uses r (export_f n k x) = []
field_uses r (start_f x) = []
field_uses r (elem_f i m xs) = []
field_uses r (data_f i m d) = []

unfoldable pub uses : {I : Type 0} → Numbered I → Uses
uses [] = []
uses ((r, f) ∷ fs) = field_uses r f ++ uses fs

-- ## The declared types, and all

unfoldable pub declared_by : {I : Type 0} → Field I → List FuncType
declared_by (type_f i t) = t ∷ []
declared_by (import_f n i d) = []
declared_by (own_f i o b) = []
declared_by (export_f n k x) = []
declared_by (start_f x) = []
declared_by (elem_f i m xs) = []
declared_by (data_f i m d) = []

unfoldable pub declared : {I : Type 0} → Numbered I → List FuncType
declared [] = []
declared ((r, f) ∷ fs) = declared_by f ++ declared fs

-- a use takes the first equal signature, or adds one at the end; a 257th type is refused
abbrev pub take_or_add : ℕ → FuncType → List FuncType → Option ℕ → Answer (List FuncType)
take_or_add r t ts (some n) = ok ts
take_or_add r t ts none = if leb 256 (length ts) then refused 12 r else ok (ts ++ (t ∷ []))

unfoldable pub intern : List FuncType → Uses → Answer (List FuncType)
intern ts [] = ok ts
intern ts ((r, t) ∷ us) = take_or_add r t ts (type_at t ts) >>= λ all. intern all us

unfoldable pub all_types : {I : Type 0} → Numbered I → Answer (List FuncType)
all_types fs = intern (declared fs) (uses fs)
