-- A walk over all fields: what the definition registers stands in the tables.
use Rattle.std.specs.Prelude.{Ok, Err, Some, None}
use Rattle.syntax.specs.Refusals.{Resolved}
use Prim.Native.Nat.{ℕ, zero, suc, ◌+◌, ◌-◌, ◌≤◌, ◌<◌, min}
use mathlib.Core.Path.{◌≡◌, refl, sym, ◌∙◌, ap}
use mathlib.Core.Bool.{true}
use mathlib.Core.List.{List, [], ◌∷◌, ◌++◌, map}
use mathlib.Core.Option.{Option, none, some}
use lib.ListN.{length, get_or, set, length-set}
use lib.Seq.{sets, get_or-set_same, get_or-set_other}
use borrow.Author.Tests.{ltb-true}
use native.Mathlib.Omega.{arith}
use Rattle.definition.specs.Basic as Basic
use Rattle.definition.specs.Basic.{Answer, ok, fails, ◌>>=◌, same_bytes}
use Rattle.definition.specs.Syntax.{Bytes, Identifier, Space, funcs, tables, mems, globals, types, elems, datas, code, Field, export_f, own_index, Body}
use Rattle.definition.specs.Reader.{got}
use Rattle.definition.specs.Records.{field_rec}
use Rattle.definition.specs.Spaces.{own_space, source_space, segments, brings}
use Rattle.definition.specs.Deinline.{Numbered, source_fields, fields_of}
use Rattle.definition.specs.Names.{Items, space, definers, holder, unheld, item_of, register}
use Rattle.syntax.specs.Refusals.{refusal_of, refused_by}
use Rattle.syntax.specs.declared.Refusal.{Refusal}
use Rattle.area.specs.Layout.{NAMED, NAMES, WORDS}
use Rattle.syntax.specs.Tokens.{id_of}
use Rattle.syntax.specs.declared.Part.{Part}
use Rattle.syntax.specs.Items.{count_of, none_seen, room_of, source_of}
use Rattle.syntax.specs.declared.Seen.{Seen}
use Rattle.syntax.specs.declared.Own.{Own}
use Rattle.syntax.specs.declared.Source.{Source}
use Rattle.syntax.specs.declared.Source.TheVariants as S
use Rattle.definition.specs.Token as Token
use Rattle.syntax.specs.TypeUses.{list_of}
use Rattle.syntax.specs.Fields.{field_of}
use Rattle.syntax.specs.declared.Field as Code
use Rattle.syntax.specs.declared.Field.TheVariants as F
use Rattle.counting.specs.Counting.{up, one_more, extern_brings, own_brings}
use Rattle.counting.proofs.Counts.{extern_brings_lem, own-brings}
use Rattle.name_table.specs.Area.{entry, names}
use Rattle.area.specs.Kept.{Kept}
use Rattle.area.proofs.Kept.{kept_then, kept_same, kept_set}
use Rattle.definition.specs.Read.{field_body}
use Rattle.reread.proofs.Gives.{roomy, RoomyField, Rooms}
use Rattle.walk.specs.Walk.{body_in, counting, seen_with, begin, cursor_after, visit_in, visit_of, fields_here, fields_ahead, fields_in}
use Rattle.walk.specs.declared.Cursor.{Cursor}
use Rattle.walk.specs.declared.Met.{Met}
use Rattle.walk.proofs.Steps.{visit_done, visit_read, visit_fields, visit_next}
use Rattle.registration.specs.Register.{table_at, definers_at, Entry, register_in, source_items, brought, Fit, Puts, Tables}
use Rattle.name_table.specs.Tables.{base, table_of}
use Rattle.name_table.specs.Definers.{definers_base, definers_in, definers_of, holder_in, item_words}
use Rattle.name_table.proofs.Tables.{base_high}
use Rattle.registration.proofs.Tables.{Holding, holding_holder, holding_more}
use Rattle.name_table.proofs.Tables.{code_small}
use Rattle.name_table.proofs.Holders.{definers_high, definers-same, item-length}

-- ## What the definition registers of a field

-- the items of a field in their order, and then the other fields
unfoldable parts_then : Bytes → ℕ → Items Identifier → List Entry → Numbered Identifier → Answer (Items Identifier)
parts_then s r xs [] fs = register same_bytes xs fs
parts_then s r xs ((k, p) ∷ ps) fs =
    unheld r (holder same_bytes (id_of s p) (space k xs) (definers k xs)) (xs ++ ((r, k, id_of s p) ∷ [])) >>= λ ys. parts_then s r ys ps fs

-- exports bring no items
exports_none : (r n : ℕ) (k : Space) (xs : Items Identifier) (es : List Bytes) (fs : List (Field Identifier)) (gs : Numbered Identifier)
    → register same_bytes xs (map (λ x. (r, x)) (map (λ e. export_f e k (own_index n)) es ++ fs) ++ gs) ≡ register same_bytes xs (map (λ x. (r, x)) fs ++ gs)
unfolding register item_of ◌>>=◌
exports_none r n k xs [] fs gs = refl
exports_none r n k xs (e ∷ es) fs gs = exports_none r n k xs es fs gs

module _ (s : Bytes) (r : ℕ) (next : Space → ℕ) (body : Body Identifier) (xs : Items Identifier) (fs : Numbered Identifier) where
  source-parts : (i : Part) (n : ℕ) (x : Source) → register same_bytes xs (map (λ f. (r, f)) (source_fields (id_of s i) n (source_of s x) body) ++ fs) ≡ parts_then s r xs (source_items i x) fs
  unfolding source_fields register item_of parts_then own_space
  source-parts i n (S.Own o) = rw (← own-brings s o) refl
  source-parts i n (S.Imported m x) = rw (← extern_brings_lem s x) refl
  source-parts i n (S.TableOf w ys) = refl
  source-parts i n (S.MemOf w d) = refl

  field-parts : (f : Code.Field) → register same_bytes xs (map (λ x. (r, x)) (fields_of next (field_of s f) body) ++ fs) ≡ parts_then s r xs (brought f) fs
  unfolding fields_of register item_of parts_then
  field-parts (F.Type i ps rs) = refl
  field-parts (F.Import n i x) = rw (← extern_brings_lem s x) refl
  field-parts (F.Item i es x) =
      let k = source_space (source_of s x) in
      exports_none r (next k) k xs (list_of Token.string s es) (source_fields (id_of s i) (next k) (source_of s x) body) fs ∙ source-parts i (next k) x
  field-parts (F.Export n k x) = unfold ◌>>=◌ in refl
  field-parts (F.Start x) = unfold ◌>>=◌ in refl
  field-parts (F.Elem i m ys) = refl
  field-parts (F.Data i m d) = refl

-- ## The same over the work area

-- what has come after some items
unfoldable after : Seen → List Entry → Seen
after seen [] = seen
after seen ((k, p) ∷ ps) = after (one_more seen k) ps

-- the items stand in the tables, and the other fields decide
record Went (s w : List ℕ) (seen : Seen) (r : ℕ) (xs : Items Identifier) (ps : List Entry) (w' : List ℕ) : Type 0 where
  items : Items Identifier
  holding : Holding s w' (after seen ps) items
  same : (fs : Numbered Identifier) → parts_then s r xs ps fs ≡ register same_bytes items fs

-- one item more, where nothing holds its name
module _ (s w : List ℕ) (seen : Seen) (r : ℕ) (xs : Items Identifier) (h : Holding s w seen xs) (k : Space) (p : Part) (ps : List Entry) (low : count_of seen k < 256) (long : WORDS ≤ length w) where
  abbrev v : List ℕ
  v = item_words s w k (count_of seen k) p r

  abbrev ys : Items Identifier
  ys = xs ++ ((r, k, id_of s p) ∷ [])

  far : WORDS ≤ length v
  far = rw (item-length s w k (count_of seen k) p r low) long

  stood : Holding s v (one_more seen k) ys
  stood = holding_more s w seen xs h k p r low long

  went_on : (w' : List ℕ) → holder_in (count_of seen k) k s w p ≡ none → Went s v (one_more seen k) r ys ps w' → Went s w seen r xs ((k, p) ∷ ps) w'
  unfolding parts_then after ◌>>=◌
  went_on w' d y =
      record {
        items = y.items;
        holding = y.holding;
        same = λ fs. rw (holding_holder s w seen xs h k p, d) (y.same fs);
      }

went : (s w : List ℕ) (seen : Seen) (r : ℕ) (xs : Items Identifier) (ps : List Entry) (w' : List ℕ)
    → Holding s w seen xs → Fit seen ps → WORDS ≤ length w → register_in s w seen r ps ≡ ok w' → Went s w seen r xs ps w'
unfolding register_in parts_then after Fit ◌>>=◌
went s w seen r xs [] w' h g long e = let d : w ≡ w' = cc in record { items = xs; holding = rw (← d) h; same = λ fs. refl }
went s w seen r xs ((k, p) ∷ ps) w' h g long e =
    go (λ f. went s (item_words s w k (count_of seen k) p r) (one_more seen k) r (xs ++ ((r, k, id_of s p) ∷ [])) ps w'
    (stood s w seen r xs h k p ps g.0 long) g.1 (far s w seen r xs h k p ps g.0 long) f)
    (holder_in (count_of seen k) k s w p) refl e
  where
    go : (register_in s (item_words s w k (count_of seen k) p r) (one_more seen k) r ps ≡ ok w'
        → Went s (item_words s w k (count_of seen k) p r) (one_more seen k) r (xs ++ ((r, k, id_of s p) ∷ [])) ps w')
        → (o : Option ℕ) → holder_in (count_of seen k) k s w p ≡ o
        → (unheld r o (item_words s w k (count_of seen k) p r) >>= λ u. register_in s u (one_more seen k) r ps) ≡ ok w' → Went s w seen r xs ((k, p) ∷ ps) w'
    go rest none d f = went_on s w seen r xs h k p ps g.0 long w' d (rest f)
    go rest (some q) d f = let z : ◌≡◌ {A = ℕ} 0 1 = cc in absurd (omega arith)

stopped : (s w : List ℕ) (seen : Seen) (r : ℕ) (xs : Items Identifier) (ps : List Entry) (q : Refusal)
    → Holding s w seen xs → Fit seen ps → WORDS ≤ length w → register_in s w seen r ps ≡ refused_by q → (fs : Numbered Identifier) → parts_then s r xs ps fs ≡ refused_by q
unfolding register_in parts_then Fit ◌>>=◌
stopped s w seen r xs [] q h g long e fs = let z : ◌≡◌ {A = ℕ} 0 1 = cc in absurd (omega arith)
stopped s w seen r xs ((k, p) ∷ ps) q h g long e fs =
    go (λ f. stopped s (item_words s w k (count_of seen k) p r) (one_more seen k) r (xs ++ ((r, k, id_of s p) ∷ [])) ps q
    (stood s w seen r xs h k p ps g.0 long) g.1 (far s w seen r xs h k p ps g.0 long) f fs)
    (holder_in (count_of seen k) k s w p) refl e
  where
    go : (register_in s (item_words s w k (count_of seen k) p r) (one_more seen k) r ps ≡ refused_by q → parts_then s r (xs ++ ((r, k, id_of s p) ∷ [])) ps fs ≡ refused_by q)
        → (o : Option ℕ) → holder_in (count_of seen k) k s w p ≡ o
        → (unheld r o (item_words s w k (count_of seen k) p r) >>= λ u. register_in s u (one_more seen k) r ps) ≡ refused_by q
        → (unheld r (holder same_bytes (id_of s p) (space k xs) (definers k xs)) (xs ++ ((r, k, id_of s p) ∷ [])) >>= λ ys. parts_then s r ys ps fs) ≡ refused_by q
    go rest none d f = rw (holding_holder s w seen xs h k p, d) (rest f)
    go rest (some z) d f =
        let y : ◌≡◌ {A = Basic.Refusal} (record { number = 13; rec = r; first = z }) (refusal_of q) = cc in
        rw (holding_holder s w seen xs h k p, d) (ap (λ (x : Basic.Refusal). fails x) y)

-- ## A field that was visited

-- what has come after its items is what the walk has seen after it
after-source : (s : Bytes) (seen : Seen) (i : Part) (x : Source) → (after seen (source_items i x)).counts ≡ (counting seen (source_space (source_of s x) ∷ segments (source_of s x))).counts
unfolding after counting source_space segments
after-source s seen i (S.Own o) = rw (own-brings s o)
after-source s seen i (S.Imported n x) = rw (extern_brings_lem s x)
after-source s seen i (S.TableOf w xs) = refl
after-source s seen i (S.MemOf w d) = refl

after-field : (s : Bytes) (seen : Seen) (f : Code.Field) → (after seen (brought f)).counts ≡ (seen_with seen (field_of s f)).counts
unfolding after counting seen_with brings
after-field s seen (F.Type i ps rs) = refl
after-field s seen (F.Import n i x) = rw (extern_brings_lem s x)
after-field s seen (F.Item i es x) = after-source s seen i x
after-field s seen (F.Export n k x) = refl
after-field s seen (F.Start x) = refl
after-field s seen (F.Elem i m xs) = refl
after-field s seen (F.Data i m d) = refl

holding_as : (s w : List ℕ) (a b : Seen) (xs : Items Identifier) → a.counts ≡ b.counts → Holding s w a xs → Holding s w b xs
unfolding table_at definers_at
holding_as s w a b xs e h =
    record {
      each = λ k. h.each k ∙ ap (λ (c : List ℕ). names (get_or c (code k) 0) s w (base k)) e;
      made = λ k. h.made k ∙ ap (λ (c : List ℕ). definers_in (get_or c (code k) 0) w (definers_base k)) e;
      few = λ k. rw e at (h.few k);
      seven = ap length (sym e) ∙ h.seven;
    }

-- the room that the reader asked for
has_room : (seen : Seen) (k : Space) → (room_of seen).item k ≡ true → count_of seen k < 256
unfolding room_of
has_room seen k e = ltb-true _ _ e

-- a field that was read has room for its items
module _ (s : Bytes) (seen : Seen) where
  source_fits : (i : Part) (x : Source) → (room_of seen).item (source_space (source_of s x)) ≡ true → Rooms (room_of seen) (segments (source_of s x)) → Fit seen (source_items i x)
  unfolding Fit source_space segments one_more
  source_fits i (S.Own o) e g = (has_room seen (own_brings o) (rw (own-brings s o) e), tt)
  source_fits i (S.Imported n x) e g = (has_room seen (extern_brings x) (rw (extern_brings_lem s x) e), tt)
  source_fits i (S.TableOf w xs) e g = (has_room seen elems g.0, (rw (get_or-set_other seen.counts 5 1 (up (count_of seen elems)) 0 (λ e. omega arith)) (has_room seen tables e), tt))
  source_fits i (S.MemOf w d) e g = (has_room seen datas g.0, (rw (get_or-set_other seen.counts 6 2 (up (count_of seen datas)) 0 (λ e. omega arith)) (has_room seen mems e), tt))

  roomy_fits : (f : Code.Field) → RoomyField (room_of seen) (field_of s f) → Fit seen (brought f)
  unfolding Fit
  roomy_fits (F.Type i ps rs) g = (has_room seen types g, tt)
  roomy_fits (F.Import n i x) g = (has_room seen (extern_brings x) (rw (extern_brings_lem s x) g), tt)
  roomy_fits (F.Item i es x) g = source_fits i x g.space g.rooms
  roomy_fits (F.Export n k x) g = tt
  roomy_fits (F.Start x) g = tt
  roomy_fits (F.Elem i m xs) g = (has_room seen elems g, tt)
  roomy_fits (F.Data i m d) g = (has_room seen datas g, tt)

  fits_read : (f : Code.Field) (at here : ℕ) → field_rec (room_of seen) s at ≡ got (field_of s f) here → Fit seen (brought f)
  fits_read f at here e = roomy_fits f (roomy (room_of seen) s at (field_of s f) here e)

-- ## The walk

-- the items so far stand in the tables, and the others are ahead
pub record Registering (s w : List ℕ) (c : Cursor) : Type 0 where
  pub items : Items Identifier
  pub holding : Holding s w c.seen items
  pub same : register same_bytes [] (fields_in s) ≡ register same_bytes items (fields_ahead c s)

holding_none : (s w : List ℕ) → Holding s w none_seen []
unfolding space definers table_at definers_at names definers_in
holding_none s w = record { each = none; made = unmade; few = few; seven = refl }
  where
    none : (k : Space) → [] ≡ names (count_of none_seen k) s w (base k)
    none funcs = refl
    none tables = refl
    none mems = refl
    none globals = refl
    none types = refl
    none elems = refl
    none datas = refl

    unmade : (k : Space) → [] ≡ definers_in (count_of none_seen k) w (definers_base k)
    unmade funcs = refl
    unmade tables = refl
    unmade mems = refl
    unmade globals = refl
    unmade types = refl
    unmade elems = refl
    unmade datas = refl

    few : (k : Space) → count_of none_seen k ≤ 256
    few funcs = omega arith
    few tables = omega arith
    few mems = omega arith
    few globals = omega arith
    few types = omega arith
    few elems = omega arith
    few datas = omega arith

-- before the first field
pub registering_begin : (s w : List ℕ) (c : Cursor) → c ≡ begin → Registering s w c
unfolding fields_in begin
registering_begin s w c e = record { items = []; holding = rw e (holding_none s w); same = rw e }

-- words below the tables do not matter to them
names_same : (s w w' : List ℕ) (n b : ℕ) → NAMES ≤ b → ((i : ℕ) → NAMES ≤ i → get_or w' i 0 ≡ get_or w i 0) → names n s w' b ≡ names n s w b
unfolding names entry
names_same s w w' zero b h f = refl
names_same s w w' (suc n) b h f = rw (f b h, f (b + 1) (omega arith), f (b + 2) (omega arith), names_same s w w' n (b + 3) (omega arith) f)

pub registering_above : (s w w' : List ℕ) (c : Cursor) → ((i : ℕ) → NAMES ≤ i → get_or w' i 0 ≡ get_or w i 0) → Registering s w c → Registering s w' c
unfolding table_at definers_at
registering_above s w w' c f v =
    record {
      items = v.items;
      holding = record {
        each = λ k. v.holding.each k ∙ sym (names_same s w w' (count_of c.seen k) (base k) (base_high k) f);
        made = λ k. v.holding.made k ∙ sym (definers-same (count_of c.seen k) w w' (definers_base k) (λ i l u. f i (omega (arith, definers_high k))));
        few = v.holding.few;
        seven = v.holding.seven;
      };
      same = v.same;
    }

module _ (s : List ℕ) (c : Cursor) (m : Met) (told : visit_in c.left c s ≡ visit_of s m) (f : Code.Field) (here : ℕ) (is : m.what ≡ Some (f, here)) where
  -- a field's items have room
  pub registering_fit : Fit c.seen (brought f)
  registering_fit = fits_read s c.seen f c.at here (visit_read s c m told f here is)

  fields : (xs : Items Identifier) → register same_bytes xs (fields_ahead c s) ≡ parts_then s c.rec xs (brought f) (fields_ahead m.next s)
  unfolding fields_here
  fields xs = rw (visit_fields s c m told f here is) (field-parts s c.rec (count_of c.seen) (body_in (field_body (field_of s f)) (c.rec + 1) s here) xs (fields_ahead m.next s) f)

  module _ (w : List ℕ) (v : Registering s w c) (q : Resolved (Unit {0})) (w' : List ℕ) (put : Puts s w c.seen c.rec (brought f) q w') (long : WORDS ≤ length w) where
    -- they were registered
    pub registering_again : q ≡ Ok tt → Registering s w' m.next
    unfolding cursor_after
    registering_again d =
        let y = went s w c.seen c.rec v.items (brought f) w' v.holding registering_fit long (rw d at put.says) in
        let n = visit_next s c m told f here is in
        record {
          items = y.items;
          holding = holding_as s w' (after c.seen (brought f)) m.next.seen y.items (after-field s c.seen f ∙ ap (λ (z : Cursor). z.seen.counts) (sym n)) y.holding;
          same = v.same ∙ fields v.items ∙ y.same (fields_ahead m.next s);
        }

    -- one was not
    pub registering_stops : (z : Refusal) → q ≡ Err z → register same_bytes [] (fields_in s) ≡ refused_by z
    registering_stops z d =
        v.same ∙ fields v.items ∙ stopped s w c.seen c.rec v.items (brought f) z v.holding registering_fit long (rw d at put.says) (fields_ahead m.next s)

-- no field is left
pub registering_done : (s w : List ℕ) (c : Cursor) (v : Registering s w c) (m : Met) → visit_in c.left c s ≡ visit_of s m → m.what ≡ None → register same_bytes [] (fields_in s) ≡ ok v.items
unfolding register
registering_done s w c v m told is = v.same ∙ rw (visit_done s c m told is) refl

sets-other : (w : List ℕ) (b : ℕ) (xs : List ℕ) (i : ℕ) → b + length xs ≤ i → get_or (sets w b xs) i 0 ≡ get_or w i 0
sets-other w b [] i h = refl
sets-other w b (x ∷ xs) i h = sets-other (set w b x) (suc b) xs i (omega arith) ∙ get_or-set_other w b i x 0 (λ e. omega arith)

sets_below : (w : List ℕ) (b : ℕ) (xs : List ℕ) (i : ℕ) → i < b → get_or (sets w b xs) i 0 ≡ get_or w i 0
sets_below w b [] i h = refl
sets_below w b (x ∷ xs) i h = sets_below (set w b x) (suc b) xs i (omega arith) ∙ get_or-set_other w b i x 0 (λ e. omega arith)

sets-there : (w : List ℕ) (b : ℕ) (xs : List ℕ) (i : ℕ) → i < length xs → b + length xs ≤ length w → get_or (sets w b xs) (b + i) 0 ≡ get_or xs i 0
sets-there w b [] i h l = absurd (omega arith)
sets-there w b (x ∷ xs) zero h l = (let e : b + 0 ≡ b = omega arith in rw e (sets_below (set w b x) (suc b) xs b (omega arith) ∙ get_or-set_same w b x 0 (omega arith)))
sets-there w b (x ∷ xs) (suc i) h l =
    (let e : b + suc i ≡ suc b + i = omega arith in rw e (sets-there (set w b x) (suc b) xs i (omega arith) (rw (length-set w b x) (omega arith))))

sets-kept : (n : ℕ) (w : List ℕ) (b : ℕ) (xs : List ℕ) → n ≤ b → Kept n w (sets w b xs)
sets-kept n w b [] h = kept_same n w
sets-kept n w b (x ∷ xs) h = kept_then (kept_set n b x w h) (sets-kept n (set w b x) (suc b) xs (omega arith))

-- a table stands above the counts
names-above : (s w : List ℕ) (xs : List ℕ) (n b : ℕ) → NAMED + length xs ≤ b → names n s (sets w NAMED xs) b ≡ names n s w b
unfolding names entry
names-above s w xs zero b h = refl
names-above s w xs (suc n) b h = rw (sets-other w NAMED xs b h, sets-other w NAMED xs (b + 1) (omega arith), sets-other w NAMED xs (b + 2) (omega arith), names-above s w xs n (b + 3) (omega arith))

-- the counts say how many names there are
module _ (s w : List ℕ) (c : Cursor) (v : Registering s w c) (long : WORDS ≤ length w) (w' : List ℕ) (e : w' ≡ sets w NAMED c.seen.counts) where
  counted : (k : Space) → get_or (sets w NAMED c.seen.counts) (NAMED + code k) 0 ≡ count_of c.seen k
  counted k = sets-there w NAMED c.seen.counts (code k) (omega (arith, code_small k, v.holding.seven)) (omega (arith, v.holding.seven))

  stands_table : (k : Space) → space k v.items ≡ table_of k s w'
  unfolding table_of table_at
  stands_table k =
      let b : min (count_of c.seen k) 256 ≡ count_of c.seen k = omega (arith, v.holding.few k) in
      rw (e, counted k, b, names-above s w c.seen.counts (count_of c.seen k) (base k) (omega (arith, base_high k, v.holding.seven))) (v.holding.each k)

  stands_made : (k : Space) → definers k v.items ≡ definers_of k w'
  unfolding definers_of definers_at
  stands_made k =
      let b : min (count_of c.seen k) 256 ≡ count_of c.seen k = omega (arith, v.holding.few k) in
      let a : definers_in (count_of c.seen k) (sets w NAMED c.seen.counts) (definers_base k) ≡ definers_in (count_of c.seen k) w (definers_base k) =
      definers-same (count_of c.seen k) w (sets w NAMED c.seen.counts) (definers_base k) (λ i l u. sets-other w NAMED c.seen.counts i (omega (arith, definers_high k, v.holding.seven))) in
      rw (e, counted k, b, a) (v.holding.made k)

  pub counted-tables : Tables s w' v.items
  counted-tables = record { each = stands_table; made = stands_made }

  pub counted-kept : Kept NAMED w w'
  counted-kept = rw e (sets-kept NAMED w NAMED c.seen.counts (omega arith))
