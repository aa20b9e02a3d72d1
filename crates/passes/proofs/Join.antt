-- On an accepted stream the fields of the walk are the definition's, and the ends of bodies are those that reading leaves.
use Rattle.std.specs.Prelude.{if◌then◌else◌}
use mathlib.Core.Path.{◌≡◌, refl, ap, sym, ◌∙◌, subst}
use Prim.Native.Nat.{ℕ, zero, suc, ◌+◌, ◌-◌, ◌*◌, ◌≤◌, ◌<◌}
use mathlib.Core.Bool.{Bool, true, false, ◌||◌}
use mathlib.Core.List.{List, [], ◌∷◌, ◌++◌, map, append-nil, append_assoc}
use mathlib.Core.Option.{Option, none, some}
use lib.Dec.{leb, ltb}
use lib.ListN.{length, length-append}
use borrow.Author.Tests.{lt-leb, le-leb, ltb-true}
use native.Mathlib.Omega.{arith}
use native.Mathlib.Decide.{dec_le}
use Rattle.definition.specs.Basic.{ok, any}
use Rattle.definition.specs.Syntax as Syntax
use Rattle.definition.specs.Syntax.{Bytes, Identifier, Space, funcs, Source, own, imported, table_of, mem_of, own_func, own_table, own_mem, own_global}
use Rattle.definition.specs.Syntax.{FieldRec, type_r, import_r, item_r, export_r, start_r, elem_r, data_r, Rec, field, Body}
use Rattle.definition.specs.Reader.{got}
use Rattle.definition.specs.Instructions.{Inside, begun}
use Rattle.definition.specs.Records.{field_rec}
use Rattle.definition.specs.Spaces.{source_space, extern_space, own_space, segments, brings, count}
use Rattle.definition.specs.Read as Read
use Rattle.definition.specs.Read.{room, seen_after, body_after, items_after, started_after, field_body, source_body, own_body, is_start, record_in, one_record, nothing_seen, records, read}
use Rattle.definition.specs.Folded.{flatten, body_of}
use Rattle.definition.specs.Deinline.{Numbered, source_fields, fields_of, deinline_from, deinline}
use Rattle.laws.proofs.Backwards.{came}
use Rattle.laws.proofs.Reading.{accepted-next, Next}
use Rattle.syntax.specs.Items.{count_of, room_of}
use Rattle.syntax.specs.declared.Seen.{Seen}
use Rattle.reread.proofs.Gives.{Roomy, RoomyField, roomy}
use Rattle.next_record.specs.Uses.{any_use, end_word}
use Rattle.stream.specs.Pass as Pass
use Rattle.stream.specs.Pass.{Passed, pass}
use Rattle.counting.specs.Counting.{one_more}
use Rattle.stream.proofs.Model.{pass_end, pass-got}
use Rattle.counting.proofs.Counts.{Holds, Counts, holds_more, counts-none, room-same}
use Rattle.walk.specs.Walk.{body_in, after_field, bodies, counting, seen_with, begin, cursor_after, whole_field, sound, Visited, visit_at, fields_here, fields_from, fields_ahead, fields_in, field_names, data_named, end_of, end_here, ends_from}
use Rattle.instr.specs.Bodies.{Stretch, body_from}
use Rattle.walk.specs.declared.Cursor.{Cursor}
use Rattle.walk.specs.declared.Stop.{Stop}
use Rattle.walk.proofs.Steps.{sound_met}
use Rattle.passes.proofs.Bodies.{at_end_lem, some_left, or_none, or_more, any_names, seen_in, outside, After, body-after}

-- ## Fields

-- outside a body a field is read
record FieldRead (seen : Read.Seen) (s : Bytes) (here : ℕ) (x : Rec Identifier) (next : ℕ) : Type 0 where
  rec : FieldRec Identifier
  is : x ≡ field rec
  reads : field_rec (room seen) s here ≡ got rec next

field-read : (seen : Read.Seen) (s : Bytes) (here : ℕ) (x : Rec Identifier) (next : ℕ) → seen.body ≡ none → one_record seen s here ≡ got x next
    → FieldRead seen s here x next
unfolding one_record
field-read seen s here x next b e =
    let c = came (field_rec (room seen) s here) (ap (λ z. record_in (room seen) z s here) (sym b) ∙ e) in
    let d = c.rest in
    let i : field c.value ≡ x = cc in
    let n : c.next ≡ next = cc in
    record { rec = c.value; is = sym i; reads = c.first ∙ rw n }

-- so no body follows
no_body : (left r : ℕ) (seen : Read.Seen) (s : Bytes) (here : ℕ) (rs : List (Rec Identifier)) → seen.body ≡ none → records left r seen s here ≡ ok rs → body_of r rs ≡ []
unfolding body_of flatten
no_body left r seen s here rs b e = go left (dec_le (length s) here) e
  where
    go : (left : ℕ) → Dec (length s ≤ here) → records left r seen s here ≡ ok rs → body_of r rs ≡ []
    go left (yes h) e = rw (at_end_lem r seen s here rs left h e b)
    go zero (no h) e = let z = some_left r seen s here rs zero (omega arith) e in absurd (omega arith)
    go (suc n) (no h) e =
        let v = accepted-next n r seen s here rs (omega arith) e in
        let f = field-read seen s here v.rec v.next b v.reads in
        let i : rs ≡ field f.rec ∷ v.rest = v.is ∙ ap (λ z. z ∷ v.rest) f.is in
        rw i

-- ## What a field brings

brings-more : (items : List Space) (c : Seen) (ks : List Space) → Holds items c.counts → Holds (ks ++ items) (counting c ks).counts
unfolding counting one_more
brings-more items c [] h = h
brings-more items c (k ∷ ks) h = holds_more k (brings-more items c ks h)

counts_with : (d : Read.Seen) (c : Seen) (f : FieldRec Identifier) → Counts d c → Counts (seen_after d (field f)) (seen_with c f)
unfolding seen_after items_after started_after seen_with
counts_with d c f h =
    let e = h.started in
    record { items = brings-more d.items c (brings f) h.items; started = rw e }

-- the number of an item that had room is not capped
number_is : (d : Read.Seen) (c : Seen) (f : FieldRec Identifier) (b : Body Identifier) → Counts d c → RoomyField (room d) f
    → fields_of (count_of c) f b ≡ fields_of (λ k. count k d.items) f b
unfolding fields_of room
number_is d c (type_r i t) b h v = refl
number_is d c (import_r n i x) b h v = refl
number_is d c (item_r i es x) b h v =
    let l : count (source_space x) d.items < 256 = ltb-true _ _ v.space in
    let e : count_of c (source_space x) ≡ count (source_space x) d.items = h.items.each (source_space x) ∙ omega arith in
    rw e
number_is d c (export_r n k x) b h v = refl
number_is d c (start_r x) b h v = refl
number_is d c (elem_r i m xs) b h v = refl
number_is d c (data_r i m x) b h v = refl

-- functions: 256 at most, and one more with each body
record Funcs (items : List Space) (f : FieldRec Identifier) : Type 0 where
  few : count funcs (brings f ++ items) ≤ 256
  more : count funcs items + bodies (field_body f) ≤ count funcs (brings f ++ items)

module _ (d : Read.Seen) (l : count funcs d.items ≤ 256) where
  extern_funcs : (k : Space) → ltb (count k d.items) 256 ≡ true → (count funcs (k ∷ d.items) ≤ 256) × (count funcs d.items ≤ count funcs (k ∷ d.items))
  unfolding count
  extern_funcs Syntax.funcs v = let h : count funcs d.items < 256 = ltb-true _ _ v in (omega arith, omega arith)
  extern_funcs Syntax.tables v = (omega arith, omega arith)
  extern_funcs Syntax.mems v = (omega arith, omega arith)
  extern_funcs Syntax.globals v = (omega arith, omega arith)
  extern_funcs Syntax.types v = (omega arith, omega arith)
  extern_funcs Syntax.elems v = (omega arith, omega arith)
  extern_funcs Syntax.datas v = (omega arith, omega arith)

  source_funcs : (i : Option Identifier) (es : List Bytes) (x : Source Identifier) → Roomy (room d) x → Funcs d.items (item_r i es x)
  unfolding count brings field_body source_body own_body source_space own_space segments room
  source_funcs i es (own (own_func t ls)) v = let h : count funcs d.items < 256 = ltb-true _ _ v.space in record { few = omega arith; more = omega arith }
  source_funcs i es (own (own_table t)) v = record { few = omega arith; more = omega arith }
  source_funcs i es (own (own_mem m)) v = record { few = omega arith; more = omega arith }
  source_funcs i es (own (own_global t c)) v = record { few = omega arith; more = omega arith }
  source_funcs i es (imported n x) v = let h = extern_funcs (extern_space x) v.space in record { few = h.0; more = omega (arith, h.1) }
  source_funcs i es (table_of w xs) v = record { few = omega arith; more = omega arith }
  source_funcs i es (mem_of w x) v = record { few = omega arith; more = omega arith }

  field_funcs : (f : FieldRec Identifier) → RoomyField (room d) f → Funcs d.items f
  unfolding count brings field_body room
  field_funcs (type_r i t) v = record { few = omega arith; more = omega arith }
  field_funcs (import_r n i x) v = let h = extern_funcs (extern_space x) v in record { few = h.0; more = omega (arith, h.1) }
  field_funcs (item_r i es x) v = source_funcs i es x v
  field_funcs (export_r n k x) v = record { few = omega arith; more = omega arith }
  field_funcs (start_r x) v = record { few = omega arith; more = omega arith }
  field_funcs (elem_r i m xs) v = record { few = omega arith; more = omega arith }
  field_funcs (data_r i m x) v = record { few = omega arith; more = omega arith }

-- a body that a field begins has no block open, and no operand is due
begins : (f : FieldRec Identifier) (j : Inside) → field_body f ≡ some j → j ≡ begun
unfolding field_body source_body own_body
begins (item_r i es (own (own_func t ls))) j e = cc
begins (item_r i es (own (own_table t))) j e = let z : ◌≡◌ {A = ℕ} 0 1 = cc in absurd (omega arith)
begins (item_r i es (own (own_mem m))) j e = let z : ◌≡◌ {A = ℕ} 0 1 = cc in absurd (omega arith)
begins (item_r i es (own (own_global t c))) j e = let z : ◌≡◌ {A = ℕ} 0 1 = cc in absurd (omega arith)
begins (item_r i es (imported n x)) j e = let z : ◌≡◌ {A = ℕ} 0 1 = cc in absurd (omega arith)
begins (item_r i es (table_of w xs)) j e = let z : ◌≡◌ {A = ℕ} 0 1 = cc in absurd (omega arith)
begins (item_r i es (mem_of w x)) j e = let z : ◌≡◌ {A = ℕ} 0 1 = cc in absurd (omega arith)
begins (type_r i t) j e = let z : ◌≡◌ {A = ℕ} 0 1 = cc in absurd (omega arith)
begins (import_r n i x) j e = let z : ◌≡◌ {A = ℕ} 0 1 = cc in absurd (omega arith)
begins (export_r n k x) j e = let z : ◌≡◌ {A = ℕ} 0 1 = cc in absurd (omega arith)
begins (start_r x) j e = let z : ◌≡◌ {A = ℕ} 0 1 = cc in absurd (omega arith)
begins (elem_r i m xs) j e = let z : ◌≡◌ {A = ℕ} 0 1 = cc in absurd (omega arith)
begins (data_r i m x) j e = let z : ◌≡◌ {A = ℕ} 0 1 = cc in absurd (omega arith)

-- ## The join

-- a cursor stands where the definition reads on, outside a body
record Stands (c : Cursor) (s : Bytes) (left : ℕ) (seen : Read.Seen) (rs : List (Rec Identifier)) : Type 0 where
  goes_on : records left c.rec seen s c.at ≡ ok rs
  outside : seen.body ≡ none
  counts : Counts seen c.seen
  sum : left + c.rec ≡ 4096
  funcs : count funcs seen.items ≤ 256

-- after a field, the cursor that follows stands too
record Onward (c : Cursor) (f : FieldRec Identifier) (s : Bytes) (next n : ℕ) (seen : Read.Seen) (rest : List (Rec Identifier)) : Type 0 where
  later : ℕ
  seen' : Read.Seen
  rest' : List (Rec Identifier)
  stands : Stands (cursor_after c f s next) s later seen' rest'
  fewer : later ≤ n
  whole : whole_field (field_body f) (c.rec + 1) s next ≡ true
  body : body_in (field_body f) (c.rec + 1) s next ≡ body_of (c.rec + 1) rest
  fields : deinline_from (c.rec + 1) (brings f ++ seen.items) rest ≡ deinline_from (cursor_after c f s next).rec seen'.items rest'
  passes : (named : Bool) (es : List ℕ) → pass n (c.rec + 1) (seen_after seen (field f)) false named es s next
      ≡ pass later (cursor_after c f s next).rec seen' false (named || any_names (body_in (field_body f) (c.rec + 1) s next)) (es ++ end_of (field_body f) (cursor_after c f s next) (body_in (field_body f) (c.rec + 1) s next)) s (cursor_after c f s next).at
  more : count funcs seen.items + bodies (field_body f) ≤ count funcs seen'.items

module _ (c : Cursor) (f : FieldRec Identifier) (s : Bytes) (next n : ℕ) (seen : Read.Seen) (rest : List (Rec Identifier))
    (v : Counts seen c.seen) (l : n + (c.rec + 1) ≡ 4096) (k : Funcs seen.items f) (g : records n (c.rec + 1) (seen_after seen (field f)) s next ≡ ok rest) where
  onward-none : field_body f ≡ none → Onward c f s next n seen rest
  unfolding cursor_after seen_after body_after items_after any
  onward-none b =
      let q : after_field (field_body f) (c.rec + 1) s next ≡ record { at = next; rec = c.rec + 1 } = ap (λ z. after_field z (c.rec + 1) s next) b in
      record {
        later = n;
        seen' = seen_after seen (field f);
        rest' = rest;
        stands = record {
          goes_on = ap (λ (z : Stop). records n z.rec (seen_after seen (field f)) s z.at) q ∙ g;
          outside = b;
          counts = counts_with seen c.seen f v;
          sum = ap (λ (z : Stop). n + z.rec) q ∙ l;
          funcs = k.few;
        };
        fewer = omega arith;
        whole = ap (λ z. whole_field z (c.rec + 1) s next) b;
        body = ap (λ z. body_in z (c.rec + 1) s next) b ∙ sym (no_body n (c.rec + 1) (seen_after seen (field f)) s next rest b g);
        fields = sym (ap (λ (z : Stop). deinline_from z.rec (brings f ++ seen.items) rest) q);
        passes = λ named es.
            ap (λ z. pass n (c.rec + 1) (seen_after seen (field f)) false named z s next) (sym (append-nil es))
            ∙ ap (λ z. pass n (c.rec + 1) (seen_after seen (field f)) false z (es ++ []) s next) (or_none named)
            ∙ sym (ap (λ (z : Stop). pass n z.rec (seen_after seen (field f)) false (named || false) (es ++ []) s z.at) q)
            ∙ ap (λ z. pass n (cursor_after c f s next).rec (seen_after seen (field f)) false (named || any_names (body_in z (c.rec + 1) s next)) (es ++ end_of z (cursor_after c f s next) (body_in z (c.rec + 1) s next)) s (cursor_after c f s next).at) (sym b);
        more = k.more;
      }

  -- the body of a field that has one
  abbrev body : Stretch
  body = body_from 0 (c.rec + 1) s next

  onward-some : field_body f ≡ some begun → After s (brings f ++ seen.items) (is_start f || seen.started) body n (c.rec + 1) (seen_after seen (field f)) next rest → Onward c f s next n seen rest
  unfolding cursor_after seen_after body_after items_after started_after
  onward-some b a =
      let q : after_field (field_body f) (c.rec + 1) s next ≡ record { at = body.at; rec = body.rec } = ap (λ z. after_field z (c.rec + 1) s next) b in
      let w = counts_with seen c.seen f v in
      let seen' = outside s (brings f ++ seen.items) (is_start f || seen.started) in
      record {
        later = a.later;
        seen' = seen';
        rest' = a.rest;
        stands = record {
          goes_on = ap (λ (z : Stop). records a.later z.rec seen' s z.at) q ∙ a.goes_on;
          outside = refl;
          counts = record { items = w.items; started = w.started };
          sum = ap (λ (z : Stop). a.later + z.rec) q ∙ a.sum ∙ l;
          funcs = k.few;
        };
        fewer = omega (arith, a.fewer);
        whole = ap (λ z. whole_field z (c.rec + 1) s next) b ∙ a.whole;
        body = ap (λ z. body_in z (c.rec + 1) s next) b ∙ a.body;
        fields = a.fields (brings f ++ seen.items) ∙ sym (ap (λ (z : Stop). deinline_from z.rec (brings f ++ seen.items) a.rest) q);
        passes = λ named es.
            a.passes false named es
            ∙ sym (ap (λ (z : Stop). pass a.later z.rec seen' false (named || any_names body.body) (es ++ (z.at ∷ end_word z.rec (any_use body.body) ∷ [])) s z.at) q)
            ∙ ap (λ z. pass a.later (cursor_after c f s next).rec seen' false (named || any_names (body_in z (c.rec + 1) s next)) (es ++ end_of z (cursor_after c f s next) (body_in z (c.rec + 1) s next)) s (cursor_after c f s next).at) (sym b);
        more = k.more;
      }

  in_body : field_body f ≡ some begun → After s (brings f ++ seen.items) (is_start f || seen.started) body n (c.rec + 1) (seen_after seen (field f)) next rest
  unfolding seen_after body_after items_after started_after
  in_body b =
      let i : seen_after seen (field f) ≡ seen_in s (brings f ++ seen.items) (is_start f || seen.started) [] [] =
      ap (λ z. record { items = brings f ++ seen.items; body = z; started = is_start f || seen.started }) b in
      subst (λ z. After s (brings f ++ seen.items) (is_start f || seen.started) body n (c.rec + 1) z next rest) (sym i)
      (body-after s (brings f ++ seen.items) (is_start f || seen.started) n [] n (c.rec + 1) next rest (omega arith) l
      (ap (λ z. records n (c.rec + 1) z s next) (sym i) ∙ g))

  onward-is : Onward c f s next n seen rest
  onward-is = go (field_body f) refl
    where
      go : (b : Option Inside) → field_body f ≡ b → Onward c f s next n seen rest
      go none b = onward-none b
      go (some j) b = let e = b ∙ ap some (begins f j b) in onward-some e (in_body e)

-- ## Data segments that are named

named-append : (xs ys : Numbered Identifier) → data_named (xs ++ ys) ≡ data_named xs || data_named ys
unfolding data_named any
named-append [] ys = refl
named-append (x ∷ xs) ys = rw (named-append xs ys) (sym (or_more (field_names x.1) (data_named xs) (data_named ys)))

exports_name : (r : ℕ) (k : Space) (n : ℕ) (es : List Bytes) (fs : List (Syntax.Field Identifier))
    → data_named (map (λ x. (r, x)) (map (λ e. Syntax.export_f e k (Syntax.own_index n)) es ++ fs)) ≡ data_named (map (λ x. (r, x)) fs)
unfolding data_named any
exports_name r k n [] fs = refl
exports_name r k n (e ∷ es) fs = exports_name r k n es fs

-- by the fields of one record, if by its body
fields_name : (r : ℕ) (next : Space → ℕ) (f : FieldRec Identifier) (s : Bytes) (here : ℕ)
    → data_named (map (λ x. (r, x)) (fields_of next f (body_in (field_body f) (r + 1) s here))) ≡ any_names (body_in (field_body f) (r + 1) s here)
unfolding fields_of source_fields field_body source_body own_body data_named any
fields_name r next (type_r i t) s here = refl
fields_name r next (import_r n i d) s here = refl
fields_name r next (item_r i es (own (own_func t ls))) s here = exports_name r _ _ es _ ∙ sym (or_none _)
fields_name r next (item_r i es (own (own_table t))) s here = exports_name r _ _ es _
fields_name r next (item_r i es (own (own_mem l))) s here = exports_name r _ _ es _
fields_name r next (item_r i es (own (own_global t c))) s here = exports_name r _ _ es _
fields_name r next (item_r i es (imported n d)) s here = exports_name r _ _ es _
fields_name r next (item_r i es (table_of w xs)) s here = exports_name r _ _ es _
fields_name r next (item_r i es (mem_of w d)) s here = exports_name r _ _ es _
fields_name r next (export_r n k x) s here = refl
fields_name r next (start_r x) s here = refl
fields_name r next (elem_r i m xs) s here = refl
fields_name r next (data_r i m d) s here = refl

-- ## The walk and the pass, from a cursor on

-- the fields and the ends from a cursor on, how many ends there are, and whether a data segment is named; nothing is a fault
record Joined (fuel : ℕ) (c : Cursor) (s : Bytes) (left : ℕ) (seen : Read.Seen) (rs : List (Rec Identifier)) : Type 0 where
  fields : fields_from fuel c s ≡ deinline_from c.rec seen.items rs
  ends : (named : Bool) (es : List ℕ) → (pass left c.rec seen false named es s c.at).ends ≡ es ++ ends_from fuel c s
  names : (named : Bool) (es : List ℕ) → (pass left c.rec seen false named es s c.at).named ≡ named || data_named (fields_from fuel c s)
  few : length (ends_from fuel c s) + 2 * count funcs seen.items ≤ 512
  sound : sound fuel c s ≡ true

-- at the stream's end nothing is visited
visit_nothing : (c : Cursor) (s : Bytes) → length s ≤ c.at → visit_at c s ≡ none
unfolding visit_at
visit_nothing c s h = rw (le-leb _ _ h) (go (leb 4096 c.rec))
  where
    go : (t : Bool) → ◌≡◌ {A = Option Visited} (if t then none else none) none
    go true = refl
    go false = refl

-- nor is anything a fault
sound-nothing : (c : Cursor) (s : Bytes) (n : ℕ) → length s ≤ c.at → sound n c s ≡ true
unfolding sound
sound-nothing c s zero h = refl
sound-nothing c s (suc n) h = rw (le-leb _ _ h) (go (leb 4096 c.rec))
  where
    go : (t : Bool) → (if t then true else true) ≡ true
    go true = refl
    go false = refl

-- within it the field that the definition reads
visit_read : (c : Cursor) (s : Bytes) (seen : Read.Seen) (f : FieldRec Identifier) (next : ℕ) → Counts seen c.seen → c.rec < 4096 → c.at < length s
    → field_rec (room seen) s c.at ≡ got f next → visit_at c s ≡ some (record { field = f; head_end = next; next = cursor_after c f s next })
unfolding visit_at
visit_read c s seen f next v l h e =
    let d : field_rec (room_of c.seen) s c.at ≡ got f next = rw (← room-same v) e in
    rw (lt-leb _ _ l, lt-leb _ _ h, d)

ends-long : (b : Option Inside) (c : Cursor) (xs : Body Identifier) → length (end_of b c xs) ≡ 2 * bodies b
ends-long none c xs = refl
ends-long (some i) c xs = refl

-- nothing is left
joined_end : (fuel : ℕ) (c : Cursor) (s : Bytes) (left : ℕ) (seen : Read.Seen) (rs : List (Rec Identifier)) → length s ≤ c.at
    → Stands c s left seen rs → Joined fuel c s left seen rs
unfolding fields_from ends_from deinline_from data_named any
joined_end fuel c s left seen rs h v = go fuel
  where
    none_left : rs ≡ []
    none_left = at_end_lem c.rec seen s c.at rs left h v.goes_on v.outside

    ends_same : (named : Bool) (es : List ℕ) → (pass left c.rec seen false named es s c.at).ends ≡ es
    ends_same named es = ap (λ (z : Passed). z.ends) (pass_end c.rec seen false named es s c.at left h)

    names_same : (named : Bool) (es : List ℕ) → (pass left c.rec seen false named es s c.at).named ≡ named || false
    names_same named es = ap (λ (z : Passed). z.named) (pass_end c.rec seen false named es s c.at left h) ∙ or_none named

    go : (fuel : ℕ) → Joined fuel c s left seen rs
    go zero = record { fields = rw none_left; ends = λ named es. ends_same named es ∙ sym (append-nil es); names = names_same; few = omega (arith, v.funcs); sound = sound-nothing c s zero h }
    go (suc m) =
        let d = visit_nothing c s h in
        record { fields = rw (d, none_left); ends = λ named es. ends_same named es ∙ rw d (sym (append-nil es)); names = λ named es. names_same named es ∙ rw d refl; few = rw d (omega (arith, v.funcs)); sound = sound-nothing c s (suc m) h }

-- one field is read, and the rest is joined
joined-field : (m : ℕ) (c : Cursor) (s : Bytes) (n : ℕ) (seen : Read.Seen) (rs rest : List (Rec Identifier)) (f : FieldRec Identifier) (next : ℕ)
    → Counts seen c.seen → RoomyField (room seen) f
    → visit_at c s ≡ some (record { field = f; head_end = next; next = cursor_after c f s next })
    → ((named : Bool) (es : List ℕ) → pass (suc n) c.rec seen false named es s c.at ≡ pass n (c.rec + 1) (seen_after seen (field f)) false named es s next)
    → rs ≡ field f ∷ rest
    → (o : Onward c f s next n seen rest)
    → Joined m (cursor_after c f s next) s o.later o.seen' o.rest'
    → Joined (suc m) c s (suc n) seen rs
unfolding fields_from ends_from deinline_from fields_here end_here
joined-field m c s n seen rs rest f next v k d p i o j =
    let a : body_in (field_body f) (c.rec + 1) s next ≡ body_of (c.rec + 1) rest = o.body in
    let b : fields_of (count_of c.seen) f (body_of (c.rec + 1) rest) ≡ fields_of (λ k. count k seen.items) f (body_of (c.rec + 1) rest) = number_is seen c.seen f (body_of (c.rec + 1) rest) v k in
    let g : fields_from m (cursor_after c f s next) s ≡ deinline_from (c.rec + 1) (brings f ++ seen.items) rest = j.fields ∙ sym o.fields in
    let x = end_of (field_body f) (cursor_after c f s next) (body_in (field_body f) (c.rec + 1) s next) in
    let l = length-append x (ends_from m (cursor_after c f s next) s) in
    let e = ends-long (field_body f) (cursor_after c f s next) (body_in (field_body f) (c.rec + 1) s next) in
    record {
      fields = rw (d, i, a, b, g);
      ends = λ named es.
          ap (λ (z : Passed). z.ends) (p named es ∙ o.passes named es)
          ∙ j.ends _ (es ++ x)
          ∙ append_assoc es x (ends_from m (cursor_after c f s next) s)
          ∙ rw d;
      names = λ named es.
          ap (λ (z : Passed). z.named) (p named es ∙ o.passes named es)
          ∙ j.names _ (es ++ x)
          ∙ or_more named (any_names (body_in (field_body f) (c.rec + 1) s next)) (data_named (fields_from m (cursor_after c f s next) s))
          ∙ ap (λ t. named || t) (ap (λ t. t || data_named (fields_from m (cursor_after c f s next) s)) (sym (fields_name c.rec (count_of c.seen) f s next)) ∙ sym (named-append _ (fields_from m (cursor_after c f s next) s)))
          ∙ rw d;
      few = rw d (omega (arith, l, e, j.few, o.more));
      sound = sound_met s c _ d m ∙ rw o.whole j.sound;
    }

joined : (fuel : ℕ) (c : Cursor) (s : Bytes) (left : ℕ) (seen : Read.Seen) (rs : List (Rec Identifier)) → left ≤ fuel → Stands c s left seen rs
    → Joined fuel c s left seen rs
joined zero c s left seen rs h v = go (dec_le (length s) c.at)
  where
    go : Dec (length s ≤ c.at) → Joined zero c s left seen rs
    go (yes g) = joined_end zero c s left seen rs g v
    go (no g) = let z = some_left c.rec seen s c.at rs left (omega arith) v.goes_on in absurd (omega arith)
joined (suc m) c s left seen rs h v = go (dec_le (length s) c.at) left h v (λ c left seen rs. joined m c s left seen rs)
  where
    Again : Type 0
    Again = (c : Cursor) (left : ℕ) (seen : Read.Seen) (rs : List (Rec Identifier)) → left ≤ m → Stands c s left seen rs → Joined m c s left seen rs

    on : (n : ℕ) → n ≤ m → Again → c.at < length s → Stands c s (suc n) seen rs → (x : Next n c.rec seen s c.at rs)
        → FieldRead seen s c.at x.rec x.next → Joined (suc m) c s (suc n) seen rs
    on n h ih g v x f =
        let i : rs ≡ field f.rec ∷ x.rest = x.is ∙ ap (λ z. z ∷ x.rest) f.is in
        let k = roomy (room seen) s c.at f.rec x.next f.reads in
        let l : c.rec < 4096 = omega (arith, v.sum) in
        let d = visit_read c s seen f.rec x.next v.counts l g f.reads in
        let y : one_record seen s c.at ≡ got (field f.rec) x.next = x.reads ∙ ap (λ z. got z x.next) f.is in
        let w : records n (c.rec + 1) (seen_after seen (field f.rec)) s x.next ≡ ok x.rest =
        ap (λ z. records n (c.rec + 1) (seen_after seen z) s x.next) (sym f.is) ∙ x.goes_on in
        let t : suc n - 1 ≡ n = omega arith in
        let o = onward-is c f.rec s x.next n seen x.rest v.counts (omega (arith, v.sum)) (field_funcs seen v.funcs f.rec k) w in
        joined-field m c s n seen rs x.rest f.rec x.next v.counts k d
        (λ named es. pass-got c.rec seen false named es s c.at (suc n) (field f.rec) x.next g (omega arith) y ∙ rw (t, append-nil))
        i o (ih (cursor_after c f.rec s x.next) o.later o.seen' o.rest' (omega (arith, o.fewer)) o.stands)

    go : Dec (length s ≤ c.at) → (left : ℕ) → left ≤ suc m → Stands c s left seen rs → Again → Joined (suc m) c s left seen rs
    go (yes g) left h v ih = joined_end (suc m) c s left seen rs g v
    go (no g) zero h v ih = let z = some_left c.rec seen s c.at rs zero (omega arith) v.goes_on in absurd (omega arith)
    go (no g) (suc n) h v ih =
        let l : c.at < length s = omega arith in
        let x = accepted-next n c.rec seen s c.at rs l v.goes_on in
        on n (omega arith) ih l v x (field-read seen s c.at x.rec x.next v.outside x.reads)

-- ## A whole stream

stands_begin : (s : Bytes) (rs : List (Rec Identifier)) → read s ≡ ok rs → Stands begin s 4096 nothing_seen rs
unfolding read begin nothing_seen count
stands_begin s rs e = record { goes_on = e; outside = refl; counts = counts-none; sum = refl; funcs = omega arith }

joined-begin : (s : Bytes) (rs : List (Rec Identifier)) → read s ≡ ok rs → Joined 4096 begin s 4096 nothing_seen rs
joined-begin s rs e = joined 4096 begin s 4096 nothing_seen rs (omega arith) (stands_begin s rs e)

-- the fields are the definition's
pub fields_in_lem : (s : Bytes) (rs : List (Rec Identifier)) → read s ≡ ok rs → fields_in s ≡ deinline rs
unfolding fields_in fields_ahead begin deinline nothing_seen
fields_in_lem s rs e = (joined-begin s rs e).fields

-- the ends of bodies are those that reading finds, for 256 functions at most
pub ends_in_lem : (s : Bytes) (rs : List (Rec Identifier)) → read s ≡ ok rs → (Pass.passed s).ends ≡ ends_from 4096 begin s
unfolding Pass.passed begin
ends_in_lem s rs e = (joined-begin s rs e).ends false []

-- so is whether a data segment is named
pub named_in : (s : Bytes) (rs : List (Rec Identifier)) → read s ≡ ok rs → (Pass.passed s).named ≡ data_named (fields_in s)
unfolding Pass.passed fields_in fields_ahead begin
named_in s rs e = (joined-begin s rs e).names false []

pub ends-few : (s : Bytes) (rs : List (Rec Identifier)) → read s ≡ ok rs → length (ends_from 4096 begin s) ≤ 512
ends-few s rs e = omega (arith, (joined-begin s rs e).few)

-- nothing in it is a fault
pub sound_in : (s : Bytes) (rs : List (Rec Identifier)) → read s ≡ ok rs → sound 4096 begin s ≡ true
sound_in s rs e = (joined-begin s rs e).sound
