-- The record stream: from a list of bytes to its records, or to the first reading fault in byte order (refusals 2 to 9 and 19).
use Rattle.std.specs.Prelude.{ℕ, zero, suc, ◌+◌, Bool, true, false, ◌||◌, not, List, [], ◌∷◌, ◌++◌, leb, ltb, length, get_or, if◌then◌else◌}
use Rattle.std.proofs.Math.Option.{Option, none, some}
use Rattle.definition.specs.Basic.{Answer, ok, fails, refused}
use Rattle.definition.specs.Syntax.{Bytes, Identifier, Space, Instr, Own, own_func, own_table, own_mem, own_global}
use Rattle.definition.specs.Syntax.{Source, own, imported, table_of, mem_of, FieldRec, type_r, import_r, item_r, export_r, start_r, elem_r, data_r, Rec, field, instr, folded, body_end}
use Rattle.definition.specs.Reader.{Step, got, fault, Reader, ◌>>=◌, give}
use Rattle.definition.specs.Instructions.{Inside, begun, inside_after, folded_after, body_rec, body_begins}
use Rattle.definition.specs.Records.{Room, field_rec, field_begins}
use Rattle.definition.specs.Spaces.{brings, count}

-- ## What the records before have brought

-- the items so far, by their spaces; in a body where it stands; whether there was a start
pub record Seen : Type 0 where
  pub items : List Space
  pub body : Option Inside
  pub started : Bool

unfoldable pub nothing_seen : Seen
nothing_seen = record { items = []; body = none; started = false }

-- document 01's ceiling of 256 items in each index space, and of one start
unfoldable pub room : Seen → Room
room seen = record { item = λ k. ltb (count k seen.items) 256; start = not seen.started }

-- an own function begins a body
unfoldable pub own_body : {I : Type 0} → Own I → Option Inside
own_body (own_func t ls) = some begun
own_body (own_table t) = none
own_body (own_mem l) = none
own_body (own_global t c) = none

unfoldable pub source_body : {I : Type 0} → Source I → Option Inside
source_body (own o) = own_body o
source_body (imported n d) = none
source_body (table_of w xs) = none
source_body (mem_of w d) = none

unfoldable pub field_body : {I : Type 0} → FieldRec I → Option Inside
field_body (type_r i t) = none
field_body (import_r n i d) = none
field_body (item_r i es x) = source_body x
field_body (export_r n k x) = none
field_body (start_r x) = none
field_body (elem_r i m xs) = none
field_body (data_r i m d) = none

unfoldable pub is_start : {I : Type 0} → FieldRec I → Bool
is_start (type_r i t) = false
is_start (import_r n i d) = false
is_start (item_r i es x) = false
is_start (export_r n k x) = false
is_start (start_r x) = true
is_start (elem_r i m xs) = false
is_start (data_r i m d) = false

abbrev pub instr_body : {I : Type 0} → Instr I → Option Inside → Option Inside
instr_body x none = none
instr_body x (some i) = some (inside_after x i)

abbrev pub folded_body : ℕ → Option Inside → Option Inside
folded_body n none = none
folded_body n (some i) = some (folded_after n i)

-- where the body stands after a record
unfoldable pub body_after : {I : Type 0} → Option Inside → Rec I → Option Inside
body_after body (field f) = field_body f
body_after body (instr x) = instr_body x body
body_after body (folded x n) = folded_body n body
body_after body body_end = none

unfoldable pub items_after : {I : Type 0} → List Space → Rec I → List Space
items_after items (field f) = brings f ++ items
items_after items (instr x) = items
items_after items (folded x n) = items
items_after items body_end = items

unfoldable pub started_after : {I : Type 0} → Bool → Rec I → Bool
started_after started (field f) = is_start f || started
started_after started (instr x) = started
started_after started (folded x n) = started
started_after started body_end = started

-- what has been seen after one record more
unfoldable pub seen_after : {I : Type 0} → Seen → Rec I → Seen
seen_after seen x =
    record { items = items_after seen.items x; body = body_after seen.body x; started = started_after seen.started x }

-- ## Records, one after the other

-- outside a body a field, in a body an instruction or its end
abbrev pub record_in : Room → Option Inside → Reader (Rec Identifier)
record_in free none = field_rec free >>= λ f. give (field f)
record_in free (some i) = body_rec i

unfoldable pub one_record : Seen → Reader (Rec Identifier)
one_record seen = record_in (room seen) seen.body

-- may a record begin with this byte?
abbrev pub begins_in : ℕ → Option Inside → Bool
begins_in b none = field_begins b
begins_in b (some i) = body_begins i b

-- where the stream ends: in a body refused by 2, at the next record's number
abbrev pub at_end : ℕ → Option Inside → Answer (List (Rec Identifier))
at_end r none = ok []
at_end r (some i) = refused 2 r

abbrev pub before : {A : Type 0} → A → Answer (List A) → Answer (List A)
before x (ok xs) = ok (x ∷ xs)
before x (fails q) = fails q

-- a reading fault stands at the record that is being read
abbrev pub with_record : {A B : Type 0} → ℕ → (A → ℕ → Answer B) → Step A → Answer B
with_record r k (got x next) = k x next
with_record r k (fault n) = refused n r

-- the records from a place on, `left` of them at most; `r` is the number of the next. One too many is refused by 7 at its first byte, and
-- by 4 where no record may begin with that byte
unfoldable pub records : ℕ → ℕ → Seen → Bytes → ℕ → Answer (List (Rec Identifier))
records zero r seen s here =
    if leb (length s) here then at_end r seen.body else
    refused (if begins_in (get_or s here 0) seen.body then 7 else 4) r
records (suc left) r seen s here =
    if leb (length s) here then at_end r seen.body else
    with_record r (λ x next. before x (records left (r + 1) (seen_after seen x) s next)) (one_record seen s here)

-- document 01's ceiling of 4,096 records
unfoldable pub read : Bytes → Answer (List (Rec Identifier))
read s = records 4096 0 nothing_seen s 0
