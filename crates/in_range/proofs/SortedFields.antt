-- Every instruction and constant of the fields of a stream that was read has the operand that its opcode tells, and an item's own number, which
-- de-inlining writes, is below the count of its space.
use Rattle.std.specs.Prelude.{if◌then◌else◌}
use mathlib.Core.Path.{refl}
use Prim.Native.Nat.{ℕ, zero, suc, ◌+◌, ◌-◌, ◌≤◌, ◌<◌}
use mathlib.Core.Bool.{Bool, true, false}
use mathlib.Core.List.{List, [], ◌∷◌, ◌++◌, map}
use mathlib.Core.Option.{Option, none, some}
use lib.Dec.{leb}
use lib.ListN.{length}
use native.Mathlib.Omega.{arith}
use Rattle.definition.specs.Basic.{Answer, ok, fails, between}
use Rattle.definition.specs.Syntax.{Bytes, Identifier, Space, tables, mems, ExternType, func, table, mem, global}
use Rattle.definition.specs.Syntax.{Index, own_index, TypeUse, Mode, passive, active, Plain}
use Rattle.definition.specs.Syntax.{Own, own_func, own_table, own_mem, own_global, Source, own, imported, table_of, mem_of}
use Rattle.definition.specs.Syntax.{FieldRec, type_r, import_r, item_r, export_r, start_r, elem_r, data_r, Rec, field, instr, folded, body_end}
use Rattle.definition.specs.Syntax.{Body, Field, type_f, import_f, own_f, export_f, start_f, elem_f, data_f}
use Rattle.definition.specs.Reader.{Step, got, fault, onward}
use Rattle.definition.specs.Instructions.{i32, i64, opcodes, form_in, form_of, Inside, unfolded_rec, fold, folded_rec, body_rec}
use Rattle.definition.specs.Records.{Room, func_extern, table_extern, mem_extern, global_extern, import_of, import_rec, item_rec, import_form}
use Rattle.definition.specs.Records.{own_func_form, func_rec, own_table_form, inline_table_form, table_rec, own_mem_form, inline_mem_form, mem_rec, own_global_form, global_rec}
use Rattle.definition.specs.Records.{type_rec, export_rec, start_rec, active_mode, mode, elem_rec, data_rec, field_recs, field_rec}
use Rattle.definition.specs.Read.{Seen, nothing_seen, room, seen_after, record_in, one_record, at_end, before, with_record, records, read}
use Rattle.definition.specs.Spaces.{source_space, segments, brings, count}
use Rattle.definition.specs.Folded.{Waiting, follow, still, flatten, body_of}
use Rattle.definition.specs.Deinline.{zero_offset, source_fields, fields_of}
use Rattle.in_range.specs.InRange.{Every}
use Rattle.in_range.proofs.Gives.{every_append, Gives, gives, gives_by, Holds, held, held_none, held_not, held_if}
use Rattle.in_range.proofs.Brings.{counts_itself}
use Rattle.in_range.proofs.Sorts.{Told, OwnBelow, told_below, UseTold, tellings, Sorted, InstrSorted, BodySorted, constant_then, formed_then, operator_then}

-- ## Records: their constants and instructions

abbrev pub OwnSorted : {I : Type 0} → Own I → Type 0
OwnSorted (own_func t ls) = UseTold t
OwnSorted (own_table t) = Unit {0}
OwnSorted (own_mem l) = Unit {0}
OwnSorted (own_global t c) = Sorted c

abbrev pub ExternTold : {I : Type 0} → ExternType (TypeUse I) → Type 0
ExternTold (func t) = UseTold t
ExternTold (table t) = Unit {0}
ExternTold (mem l) = Unit {0}
ExternTold (global g) = Unit {0}

abbrev pub SourceSorted : {I : Type 0} → Source I → Type 0
SourceSorted (own o) = OwnSorted o
SourceSorted (imported n d) = ExternTold d
SourceSorted (table_of w xs) = Every Told xs
SourceSorted (mem_of w d) = Unit {0}

abbrev pub ModeSorted : {I : Type 0} → Mode (Index I) (Plain I) → Type 0
ModeSorted passive = Unit {0}
ModeSorted (active x c) = Told x × Sorted c

abbrev pub FieldRecSorted : {I : Type 0} → FieldRec I → Type 0
FieldRecSorted (type_r i t) = Unit {0}
FieldRecSorted (import_r n i d) = ExternTold d
FieldRecSorted (item_r i es x) = SourceSorted x
FieldRecSorted (export_r n k x) = Told x
FieldRecSorted (start_r x) = Told x
FieldRecSorted (elem_r i m xs) = ModeSorted m × Every Told xs
FieldRecSorted (data_r i m d) = ModeSorted m

abbrev pub RecSorted : {I : Type 0} → Rec I → Type 0
RecSorted (field f) = FieldRecSorted f
RecSorted (instr x) = InstrSorted x
RecSorted (folded x n) = InstrSorted x
RecSorted body_end = Unit {0}

body_sorted : (i : Inside) (s : Bytes) (at : ℕ) → Gives RecSorted (body_rec i s at)
unfolding body_rec unfolded_rec folded_rec fold
body_sorted i s at = search (formed_then, operator_then, tellings) depth 20

-- a segment's mode, and a reader after it
mode_sorted : (s : Bytes) (at : ℕ) → Gives ModeSorted (mode s at)
unfolding mode active_mode
mode_sorted s at = search (constant_then, tellings) depth 12

mode_then : {B : Type 0} {P : B → Type 0} (s : Bytes) (at : ℕ) (k : Mode (Index Identifier) (Plain Identifier) → ℕ → Step B)
    → ((m : Mode (Index Identifier) (Plain Identifier)) (n : ℕ) → ModeSorted m → Gives P (k m n)) → Gives P (onward k (mode s at))
mode_then s at k f = gives_by ModeSorted (mode_sorted s at) f

module _ (free : Room) where
  imports_sorted : (s : Bytes) (at : ℕ) → Gives FieldRecSorted (import_rec free s at)
  unfolding import_rec import_of func_extern table_extern mem_extern global_extern
  imports_sorted s at = search tellings depth 20

  funcs_sorted : (s : Bytes) (at : ℕ) → Gives FieldRecSorted (func_rec free s at)
  unfolding func_rec item_rec own_func_form import_form func_extern
  funcs_sorted s at = search tellings depth 20

  tables_sorted : (s : Bytes) (at : ℕ) → Gives FieldRecSorted (table_rec free s at)
  unfolding table_rec item_rec own_table_form inline_table_form import_form table_extern
  tables_sorted s at = search tellings depth 20

  mems_sorted : (s : Bytes) (at : ℕ) → Gives FieldRecSorted (mem_rec free s at)
  unfolding mem_rec item_rec own_mem_form inline_mem_form import_form mem_extern
  mems_sorted s at = search tellings depth 20

  globals_sorted : (s : Bytes) (at : ℕ) → Gives FieldRecSorted (global_rec free s at)
  unfolding global_rec item_rec own_global_form import_form global_extern
  globals_sorted s at = search (constant_then, tellings) depth 20

  -- the records by their first byte
  field_sorted : (s : Bytes) (at : ℕ) → Gives FieldRecSorted (field_rec free s at)
  unfolding field_rec field_recs type_rec export_rec start_rec elem_rec data_rec
  field_sorted s at = search (mode_then, imports_sorted, funcs_sorted, tables_sorted, mems_sorted, globals_sorted, tellings) depth 30

-- ## Streams

one_sorted : (seen : Seen) (s : Bytes) (at : ℕ) → Gives RecSorted (one_record seen s at)
unfolding one_record
one_sorted seen s at = go seen.body
  where
    go : (body : Option Inside) → Gives RecSorted (record_in (room seen) body s at)
    go none = gives_by FieldRecSorted (field_sorted (room seen) s at) λ f n h. gives (field f) n h
    go (some i) = body_sorted i s at

end_sorted : (r : ℕ) (body : Option Inside) → Holds (Every RecSorted) (at_end r body)
end_sorted r none = held [] tt
end_sorted r (some i) = held_not 2 r

before_sorted : (x : Rec Identifier) (a : Answer (List (Rec Identifier))) → RecSorted x → Holds (Every RecSorted) a → Holds (Every RecSorted) (before x a)
before_sorted x (ok xs) p h = held (x ∷ xs) (p, h.of xs refl)
before_sorted x (fails q) p h = held_none q

with_sorted : (r : ℕ) (k : Rec Identifier → ℕ → Answer (List (Rec Identifier))) (st : Step (Rec Identifier)) → Gives RecSorted st
    → ((x : Rec Identifier) (n : ℕ) → RecSorted x → Holds (Every RecSorted) (k x n)) → Holds (Every RecSorted) (with_record r k st)
with_sorted r k (got x n) g h = h x n (g.holds x n refl)
with_sorted r k (fault f) g h = held_not f r

records_sorted : (left r : ℕ) (seen : Seen) (s : Bytes) (here : ℕ) → Holds (Every RecSorted) (records left r seen s here)
unfolding records
records_sorted zero r seen s here = held_if (leb (length s) here) (end_sorted r seen.body) (held_not _ r)
records_sorted (suc left) r seen s here =
    held_if (leb (length s) here) (end_sorted r seen.body)
    (with_sorted r _ (one_record seen s here) (one_sorted seen s here) (λ x n p. before_sorted x _ p (records_sorted left (r + 1) (seen_after seen x) s n)))

pub read_sorted : (s : Bytes) → Holds (Every RecSorted) (read s)
unfolding read
read_sorted s = records_sorted 4096 0 nothing_seen s 0

-- ## Fields: each space has so many items

module _ (items : Space → ℕ) where
  -- a segment is active at an item of a space
  abbrev pub ModeOwn : {I : Type 0} → Space → Mode (Index I) (Plain I) → Type 0
  ModeOwn k passive = Unit {0}
  ModeOwn k (active x c) = OwnBelow (items k) x × Sorted c

  abbrev pub FieldSorted : {I : Type 0} → Field I → Type 0
  FieldSorted (type_f i t) = Unit {0}
  FieldSorted (import_f n i d) = ExternTold d
  FieldSorted (own_f i o b) = OwnSorted o × BodySorted b
  FieldSorted (export_f n k x) = OwnBelow (items k) x
  FieldSorted (start_f x) = Told x
  FieldSorted (elem_f i m xs) = ModeOwn tables m × Every Told xs
  FieldSorted (data_f i m d) = ModeOwn mems m

  abbrev pub NumberedSorted : {I : Type 0} → ℕ × Field I → Type 0
  NumberedSorted x = FieldSorted x.1

-- ## The fields of a stream

module _ {I : Type 0} where
  zero_sorted : (wide : Bool) → Sorted {I = I} (zero_offset wide)
  unfolding zero_offset form_of form_in opcodes between
  zero_sorted true = record { sort = i64; form = refl; suits = tt }
  zero_sorted false = record { sort = i32; form = refl; suits = tt }

  -- operators that wait for operands
  abbrev WaitingSorted : Waiting I → Type 0
  WaitingSorted ws = Every (λ w. InstrSorted w.2) ws

  follow_sorted : (ws : Waiting I) → WaitingSorted ws → BodySorted (follow ws)
  unfolding follow
  follow_sorted [] h = tt
  follow_sorted ((n, r, x) ∷ ws) h = go (leb n 1) (follow_sorted ws h.1)
    where
      go : (t : Bool) → BodySorted (follow ws) → BodySorted (if t then (r, x) ∷ follow ws else [])
      go true w = (h.0, w)
      go false w = tt

  still_sorted : (ws : Waiting I) → WaitingSorted ws → WaitingSorted (still ws)
  unfolding still
  still_sorted [] h = tt
  still_sorted ((n, r, x) ∷ ws) h = go (leb n 1) (still_sorted ws h.1)
    where
      go : (t : Bool) → WaitingSorted (still ws) → WaitingSorted (if t then still ws else (n - 1, r, x) ∷ ws)
      go true w = w
      go false w = h

  flatten_sorted : (r : ℕ) (ws : Waiting I) (rs : List (Rec I)) → WaitingSorted ws → Every RecSorted rs → BodySorted (flatten r ws rs)
  unfolding flatten
  flatten_sorted r ws [] w h = tt
  flatten_sorted r ws (field f ∷ rs) w h = tt
  flatten_sorted r ws (instr x ∷ rs) w h = (h.0, flatten_sorted (r + 1) ws rs w h.1)
  flatten_sorted r ws (folded x zero ∷ rs) w h =
      (h.0, every_append _ (follow ws) (flatten (r + 1) (still ws) rs) (follow_sorted ws w) (flatten_sorted (r + 1) (still ws) rs (still_sorted ws w) h.1))
  flatten_sorted r ws (folded x (suc n) ∷ rs) w h = flatten_sorted (r + 1) ((suc n, r, x) ∷ ws) rs (h.0, w) h.1
  flatten_sorted r ws (body_end ∷ rs) w h = tt

  pub body_of_sorted : (r : ℕ) (rs : List (Rec I)) → Every RecSorted rs → BodySorted (body_of r rs)
  unfolding body_of
  body_of_sorted r rs h = flatten_sorted r [] rs tt h

  module _ (items : Space → ℕ) where
    mode-own : (k : Space) (m : Mode (Index I) (Plain I)) → ModeSorted m → ModeOwn items k m
    mode-own k passive h = tt
    mode-own k (active x c) h = (told_below (items k) x h.0, h.1)

    module _ (b : Body I) (bs : BodySorted b) where
      source_fields_lem : (i : Option I) (n : ℕ) (x : Source I) → SourceSorted x → n < items (source_space x) → Every (FieldSorted items) (source_fields i n x b)
      unfolding source_fields source_space
      source_fields_lem i n (own o) h l = ((h, bs), tt)
      source_fields_lem i n (imported m d) h l = (h, tt)
      source_fields_lem i n (table_of wide xs) h l = (((l, zero_sorted wide), h), ((tt, tt), tt))
      source_fields_lem i n (mem_of wide d) h l = ((l, zero_sorted wide), ((tt, tt), tt))

      item_fields : (i : Option I) (n : ℕ) (x : Source I) → SourceSorted x → n < items (source_space x) → (es : List Bytes)
          → Every (FieldSorted items) (map (λ e. export_f e (source_space x) (own_index n)) es ++ source_fields i n x b)
      item_fields i n x h l [] = source_fields_lem i n x h l
      item_fields i n x h l (e ∷ es) = (l, item_fields i n x h l es)

      -- the next number of a space and the items that the record brings are within what there is
      pub fields_sorted : (next : Space → ℕ) (f : FieldRec I) → FieldRecSorted f → ((k : Space) → next k + count k (brings f) ≤ items k)
          → Every (FieldSorted items) (fields_of next f b)
      unfolding fields_of brings
      fields_sorted next (type_r i t) h l = (tt, tt)
      fields_sorted next (import_r n i d) h l = (h, tt)
      fields_sorted next (item_r i es x) h l =
          let k = source_space x in
          let itself = counts_itself k (segments x) in
          let within = l k in
          item_fields i (next k) x h (omega arith) es
      fields_sorted next (export_r n k x) h l = (told_below (items k) x h, tt)
      fields_sorted next (start_r x) h l = (h, tt)
      fields_sorted next (elem_r i m xs) h l = ((mode-own tables m h.0, h.1), tt)
      fields_sorted next (data_r i m d) h l = (mode-own mems m h, tt)
