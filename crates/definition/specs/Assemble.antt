-- The whole (document 01, "What a call says"): from a stream, a work area and an output buffer to what a call says and leaves.
use Rattle.std.specs.Prelude.{ℕ, Bool, true, false, List, [], ◌++◌, map, leb, ltb, length, drop, replicate, if◌then◌else◌}
use Rattle.definition.specs.Basic.{Refusal, refusal, Answer, ok, fails, refused, ◌>>=◌, same_bytes}
use Rattle.definition.specs.Syntax.{Bytes, Identifier, Rec, Item, type_i}
use Rattle.definition.specs.Read.{read}
use Rattle.definition.specs.Deinline.{deinline, import_order, Numbered}
use Rattle.definition.specs.Types.{all_types, declared}
use Rattle.definition.specs.Names.{Scope, space, definers, register, resolve_all}
use Rattle.definition.specs.Binary.{module'}
use Rattle.definition.specs.NameSection.{name_section}

-- ## From fields to items

-- what names mean in some fields: 11, 12 and 13, each over the whole stream
unfoldable pub scope : {I : Type 0} → Bool → (I → I → Bool) → Numbered I → Answer (Scope I)
scope strict eq fs =
    import_order fs >>= λ _.
    all_types fs >>= λ ts.
    register eq [] fs >>= λ xs.
    ok (record { strict = strict; eq = eq; names = λ k. space k xs; definers = λ k. definers k xs; all_types = ts })

-- the fields in that scope: 14 to 17, 20 in a strict call, and 13 for locals. Added types come after the declared ones
unfoldable pub items_in : {I : Type 0} → Scope I → Numbered I → Answer (List Item)
items_in Γ fs = resolve_all Γ fs >>= λ is. ok (is ++ map type_i (drop (length (declared fs)) Γ.all_types))

-- the passes in document 01's order
unfoldable pub items : {I : Type 0} → Bool → (I → I → Bool) → Numbered I → Answer (List Item)
items strict eq fs = scope strict eq fs >>= λ Γ. items_in Γ fs

unfoldable pub resolved : {I : Type 0} → Bool → (I → I → Bool) → List (Rec I) → Answer (List Item)
resolved strict eq rs = items strict eq (deinline rs)

-- ## From items to bytes

-- bytes that must fit into `room`: 18, at the count of records
unfoldable pub fitting : ℕ → ℕ → Bytes → Answer Bytes
fitting room count bs = if leb (length bs) room then ok bs else refused 18 count

-- the module of some records
unfoldable pub module_in : {I : Type 0} → Bool → (I → I → Bool) → ℕ → List (Rec I) → Answer Bytes
module_in strict eq room rs = resolved strict eq rs >>= λ is. fitting room (length rs) (module' is)

-- the module and after it its name section (document 02, §1)
unfoldable pub named_module_in : Bool → ℕ → List (Rec Identifier) → Answer Bytes
named_module_in strict room rs =
    scope strict same_bytes (deinline rs) >>= λ Γ.
    items_in Γ (deinline rs) >>= λ is.
    fitting room (length rs) (module' is ++ name_section Γ (deinline rs))

-- ## What a call says

-- its number, its record, where the name was first used, and the bytes that it writes at the output's start
pub record Said : Type 0 where
  pub number : ℕ
  pub rec : ℕ
  pub first : ℕ
  pub bytes : Bytes

abbrev pub refusing : Refusal → Said
refusing q = record { number = q.number; rec = q.rec; first = q.first; bytes = [] }

unfoldable pub say : ℕ → Answer Bytes → Said
say count (ok bs) = record { number = 0; rec = count; first = count; bytes = bs }
say count (fails q) = refusing q

-- what makes the bytes of some records in some room: each call has its own
abbrev pub Maker : Type 0
Maker = ℕ → List (Rec Identifier) → Answer Bytes

unfoldable pub say_read : Maker → ℕ → Answer (List (Rec Identifier)) → Said
say_read make room (ok rs) = say (length rs) (make room rs)
say_read make room (fails q) = refusing q

-- how many bytes a stream has at most, and how many words a work area has at least
abbrev pub longest_stream : ℕ
longest_stream = 65536

abbrev pub least_work : ℕ
least_work = 16384

-- `work` words and `room` bytes are lent
unfoldable pub assemble_by : Maker → Bytes → ℕ → ℕ → Said
assemble_by make stream work room =
    if ltb longest_stream (length stream) then refusing (refusal 1 0) else
    if ltb work least_work then refusing (refusal 10 0) else
    say_read make room (read stream)

unfoldable pub assemble : Bytes → ℕ → ℕ → Said
assemble stream work room = assemble_by (module_in false same_bytes) stream work room

-- with the names
unfoldable pub assemble_names : Bytes → ℕ → ℕ → Said
assemble_names stream work room = assemble_by (named_module_in false) stream work room

-- the same two with every number checked (document 02, §8)
unfoldable pub assemble_strict : Bytes → ℕ → ℕ → Said
assemble_strict stream work room = assemble_by (module_in true same_bytes) stream work room

unfoldable pub assemble_strict_names : Bytes → ℕ → ℕ → Said
assemble_strict_names stream work room = assemble_by (named_module_in true) stream work room

-- ## What a call leaves

-- the module and beyond it the old bytes; on a refusal the old bytes
unfoldable pub output_after : Bytes → Said → Bytes
output_after old a = a.bytes ++ drop (length a.bytes) old

-- all zeros
unfoldable pub work_after : List ℕ → List ℕ
work_after old = replicate (length old) 0

-- everything that a call with this stream, work area and output does
pub record Outcome : Type 0 where
  pub number : ℕ
  pub rec : ℕ
  pub first : ℕ
  pub written : ℕ
  pub output : Bytes
  pub work : List ℕ

unfoldable pub outcome : Bytes → List ℕ → Said → Outcome
outcome output work a =
    record { number = a.number; rec = a.rec; first = a.first; written = length a.bytes; output = output_after output a; work = work_after work }

unfoldable pub call_by : Maker → Bytes → List ℕ → Bytes → Outcome
call_by make stream work output = outcome output work (assemble_by make stream (length work) (length output))

-- the plain call, and the one that also writes the names
unfoldable pub call : Bytes → List ℕ → Bytes → Outcome
call stream work output = call_by (module_in false same_bytes) stream work output

unfoldable pub call_names : Bytes → List ℕ → Bytes → Outcome
call_names stream work output = call_by (named_module_in false) stream work output

-- the strict ones
unfoldable pub call_strict : Bytes → List ℕ → Bytes → Outcome
call_strict stream work output = call_by (module_in true same_bytes) stream work output

unfoldable pub call_strict_names : Bytes → List ℕ → Bytes → Outcome
call_strict_names stream work output = call_by (named_module_in true) stream work output
