-- The fields of a stream as the later passes meet them: total, whatever the stream is. On an accepted stream they are the definition's.
use Rattle.std.specs.Prelude.{Option as Optional, Some, None}
use Rattle.std.specs.Prelude.{ℕ, zero, suc, ◌+◌, ◌-◌, ◌≤◌, ◌≡◌, Bool, true, false, ◌&&◌, ◌||◌, List, [], ◌∷◌, ◌++◌, map, leb, length, take, drop, get_or, if◌then◌else◌}
use Rattle.std.proofs.Math.Option.{Option, none, some}
use Rattle.definition.specs.Basic.{any}
use Rattle.definition.specs.Syntax as Syntax
use Rattle.definition.specs.Syntax.{Bytes, Identifier, Space, FieldRec, field, Body}
use Rattle.definition.specs.Reader.{Step, got, fault}
use Rattle.definition.specs.Instructions.{Inside}
use Rattle.definition.specs.Records.{field_rec}
use Rattle.definition.specs.Spaces.{brings}
use Rattle.definition.specs.Read.{field_body, is_start}
use Rattle.definition.specs.Deinline.{Numbered, fields_of}
use Rattle.area.specs.Layout.{MARK, STRICT, end_at}
use Rattle.area.specs.Flags.{data_named_in}
use Rattle.syntax.specs.Items.{count_of, room_of, none_seen}
use Rattle.syntax.specs.declared.Seen.{Seen}
use Rattle.reread.specs.Known.{ReadableHead}
use Rattle.syntax.specs.Fields.{field_of}
use Rattle.syntax.specs.declared.Field.{Field}
use Rattle.next_record.specs.Uses.{any_use, names_data, end_word}
use Rattle.counting.specs.Counting.{one_more, field_seen}
use Rattle.next_record.specs.Answers.{field_depth}
use Rattle.instr.specs.Bodies.{body_from}
use Rattle.walk.specs.declared.Cursor.{Cursor}
use Rattle.walk.specs.declared.Stop.{Stop}
use Rattle.walk.specs.declared.Met.{Met}

-- ## Bodies

-- the body of a field that has one; `r` is the number of its first record
abbrev pub body_in : Option Inside → ℕ → Bytes → ℕ → Body Identifier
body_in none r s here = []
body_in (some i) r s here = (body_from (length i.blocks) r s here).body

-- where it ends
abbrev pub after_field : Option Inside → ℕ → Bytes → ℕ → Stop
after_field none r s here = record { at = here; rec = r }
after_field (some i) r s here = record { at = (body_from (length i.blocks) r s here).at; rec = (body_from (length i.blocks) r s here).rec }

abbrev pub bodies : Option Inside → ℕ
bodies none = 0
bodies (some i) = 1

-- ## One field

-- what a field brings, in the counts
unfoldable pub counting : Seen → List Space → Seen
counting seen [] = seen
counting seen (k ∷ ks) = one_more (counting seen ks) k

unfoldable pub seen_with : Seen → FieldRec Identifier → Seen
seen_with seen f = record { counts = (counting seen (brings f)).counts; started = is_start f || seen.started }

unfoldable pub begin : Cursor
begin = record { at = 0; rec = 0; own = 0; left = 4096; seen = none_seen }

-- where the walk goes on after a field whose head ends at `here`
unfoldable pub cursor_after : Cursor → FieldRec Identifier → Bytes → ℕ → Cursor
cursor_after c f s here =
    record {
      at = (after_field (field_body f) (c.rec + 1) s here).at;
      rec = (after_field (field_body f) (c.rec + 1) s here).rec;
      own = c.own + bodies (field_body f);
      left = c.left - 1;
      seen = seen_with c.seen f;
    }

-- does the body of a field that has one read to its end? `r` is the number of its first record
abbrev pub whole_field : Option Inside → ℕ → Bytes → ℕ → Bool
whole_field none r s here = true
whole_field (some i) r s here = (body_from (length i.blocks) r s here).whole

-- a field that was read, or none
abbrev pub on_field : {B : Type 0} → Step (FieldRec Identifier) → (FieldRec Identifier → ℕ → B) → B → B
on_field (got f here) more z = more f here
on_field (fault n) more z = z

-- from a cursor on, `left` records of fields at most: is nothing a fault, in fields or in their bodies?
unfoldable pub sound : ℕ → Cursor → Bytes → Bool
sound zero c s = true
sound (suc left) c s =
    if leb 4096 c.rec then true else
    if leb (length s) c.at then true else
    on_field (field_rec (room_of c.seen) s c.at)
    (λ f here. whole_field (field_body f) (c.rec + 1) s here && sound left (cursor_after c f s here) s) false

-- a field, the place after its head, and where the walk goes on
pub record Visited : Type 0 where
  pub field : FieldRec Identifier
  pub head_end : ℕ
  pub next : Cursor

abbrev pub visit_step : Cursor → Bytes → Step (FieldRec Identifier) → Option Visited
visit_step c s (got f here) = some (record { field = f; head_end = here; next = cursor_after c f s here })
visit_step c s (fault n) = none

unfoldable pub visit_at : Cursor → Bytes → Option Visited
visit_at c s =
    if leb 4096 c.rec then none else
    if leb (length s) c.at then none else
    visit_step c s (field_rec (room_of c.seen) s c.at)

-- one that may still be visited
abbrev pub visit_in : ℕ → Cursor → Bytes → Option Visited
visit_in zero c s = none
visit_in (suc left) c s = visit_at c s

abbrev pub met_of : Bytes → Optional (Field × ℕ) → Cursor → Option Visited
met_of s (Some (f, here)) next = some (record { field = field_of s f; head_end = here; next = next })
met_of s None next = none

abbrev pub visit_of : Bytes → Met → Option Visited
visit_of s m = met_of s m.what m.next

-- the lists of a function's head that was met can be read again
abbrev pub ReadableMet : Bytes → Optional (Field × ℕ) → Type 0
ReadableMet s (Some (f, here)) = ReadableHead s f
ReadableMet s None = Unit {0}

-- ## All fields

abbrev pub on_visit : {B : Type 0} → Option Visited → (Visited → B) → B → B
on_visit none f z = z
on_visit (some v) f z = f v

-- the fields of one record, each with its number
unfoldable pub fields_here : Cursor → Bytes → Visited → Numbered Identifier
fields_here c s v =
    map (λ x. (c.rec, x))
    (fields_of (count_of c.seen) v.field (body_in (field_body v.field) (c.rec + 1) s v.head_end))

-- from a cursor on, `left` records of fields at most
unfoldable pub fields_from : ℕ → Cursor → Bytes → Numbered Identifier
fields_from zero c s = []
fields_from (suc left) c s = on_visit (visit_at c s) (λ v. fields_here c s v ++ fields_from left v.next s) []

unfoldable pub fields_ahead : Cursor → Bytes → Numbered Identifier
fields_ahead c s = fields_from c.left c s

unfoldable pub fields_in : Bytes → Numbered Identifier
fields_in s = fields_ahead begin s

-- ## Data segments that are named

-- does the body of an own function name one?
abbrev pub own_names : Syntax.Own Identifier → Body Identifier → Bool
own_names (Syntax.own_func t ls) b = any (λ x. names_data x.1) b
own_names (Syntax.own_table t) b = false
own_names (Syntax.own_mem l) b = false
own_names (Syntax.own_global t c) b = false

abbrev pub field_names : Syntax.Field Identifier → Bool
field_names (Syntax.type_f i t) = false
field_names (Syntax.import_f n i d) = false
field_names (Syntax.own_f i o b) = own_names o b
field_names (Syntax.export_f n k x) = false
field_names (Syntax.start_f x) = false
field_names (Syntax.elem_f i m xs) = false
field_names (Syntax.data_f i m d) = false

-- does some body?
unfoldable pub data_named : Numbered Identifier → Bool
data_named fs = any (λ x. field_names x.1) fs

-- ## The ends of bodies, in the work area

-- the place after a body, and the record after it with what the body may use
abbrev pub end_of : Option Inside → Cursor → Body Identifier → List ℕ
end_of none c b = []
end_of (some i) c b = c.at ∷ end_word c.rec (any_use b) ∷ []

unfoldable pub end_here : Cursor → Bytes → Visited → List ℕ
end_here c s v = end_of (field_body v.field) v.next (body_in (field_body v.field) (c.rec + 1) s v.head_end)

unfoldable pub ends_from : ℕ → Cursor → Bytes → List ℕ
ends_from zero c s = []
ends_from (suc left) c s = on_visit (visit_at c s) (λ v. end_here c s v ++ ends_from left v.next s) []

-- ys begins with xs
pub record Begins (xs ys : List ℕ) : Type 0 where
  pub rest : List ℕ
  pub is : ys ≡ xs ++ rest

-- the words from `ENDS` up to `STRICT` of the work area hold the ends that are still ahead, and nothing ahead is a fault; a word says whether a data
-- segment is named
pub record Ahead (s : Bytes) (w : List ℕ) (c : Cursor) : Type 0 where
  pub ends : Begins (ends_from c.left c s) (drop (end_at c.own) (take STRICT w))
  pub few : c.own + c.left ≤ 4096
  pub sound : sound c.left c s ≡ true
  pub named : data_named_in w ≡ data_named (fields_in s)

-- the record in the second word of an end
unfoldable pub end_record : ℕ → ℕ
end_record x = if leb MARK x then x - MARK else x

-- the n-th body's end, as the work area has it
unfoldable pub end_in : List ℕ → ℕ → Stop
end_in w n = record { at = get_or w (end_at n) 0; rec = end_record (get_or w (end_at n + 1) 0) }

-- may the n-th body use a type?
unfoldable pub uses_in : List ℕ → ℕ → Bool
uses_in w n = leb MARK (get_or w (end_at n + 1) 0)

-- where the walk goes on by the work area; `depth` is 1 for an own function, else 0
abbrev pub stop_in : ℕ → List ℕ → Cursor → ℕ → Stop
stop_in zero w c here = record { at = here; rec = c.rec + 1 }
stop_in (suc d) w c here = end_in w c.own

unfoldable pub cursor_in : List ℕ → Cursor → Field → ℕ → Cursor
cursor_in w c f here =
    record {
      at = (stop_in (field_depth f) w c here).at;
      rec = (stop_in (field_depth f) w c here).rec;
      own = c.own + field_depth f;
      left = c.left - 1;
      seen = field_seen c.seen f;
    }
