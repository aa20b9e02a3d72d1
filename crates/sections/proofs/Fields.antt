-- The loop over all fields.
use Rattle.std.specs.Prelude.{Some, None}
use Prim.Native.Nat.{ℕ, ◌+◌, ◌*◌, ◌^◌, ◌≤◌, ◌<◌}
use mathlib.Core.Path.{◌≡◌, refl, sym, ◌∙◌, ap, subst}
use mathlib.Core.List.{List, [], ◌∷◌, ◌++◌, append_assoc, append-nil}
use lib.ListN.{length, get_or, length-append}
use native.Mathlib.Omega.{arith}
use Rattle.definition.specs.Basic.{each, ◌>>=◌, concat_map}
use Rattle.definition.specs.Syntax.{Bytes, Identifier, FuncType}
use Rattle.definition.specs.Deinline.{Numbered}
use Rattle.definition.specs.Types.{Uses, uses, field_uses, type_number}
use Rattle.definition.specs.Names.{Scope, resolve_all}
use Rattle.definition.specs.Binary.{in_section, joined}
use Rattle.emit.specs.Put.{Put, past}
use Rattle.binary.proofs.Putting.{Putting, putting_begin, putting_more, putting_done, putting_long}
use Rattle.area.specs.Layout.{BYTES, LOCALS, TYPES, USES, WORDS}
use Rattle.area.specs.Kept.{Kept}
use Rattle.area.proofs.Kept.{kept_same, kept_then, kept_less}
use Rattle.type_table.specs.Table.{types_in, Recalled}
use Rattle.syntax.specs.Fields.{field_of}
use Rattle.syntax.specs.declared.Field.{Field}
use Rattle.walk.specs.Walk.{Ahead, begin, fields_in, fields_ahead, fields_here, Visited, ReadableMet, visit_in, visit_of}
use Rattle.walk.specs.declared.Cursor.{Cursor}
use Rattle.walk.specs.declared.Met.{Met}
use Rattle.walk.proofs.Steps.{visit_done, visit_few, visit_func_few, visit_readable, visit_fields, visit_whole, visit_ahead, ahead-kept}
use Rattle.scope.specs.Scope.{scope_in}
use Rattle.scope.proofs.Frames.{recalled-left, recalled_right}
use Rattle.deinline.specs.Entry.{uses_of, HeadIn, WholeIn, Three, three, both, entry_in, three_in, entries_of}
use Rattle.syntax.specs.declared.Entry.{Entry}
use Rattle.deinline.proofs.Fields.{entries-append, entries-here}
use Rattle.deinline.proofs.Uses.{All, AllThree, uses-here, HeadThree, head-here, WholeThree, whole_here}
use Rattle.kept.specs.Content.{Fine, bytes_in}
use Rattle.sections.specs.Write.{Writes, Emittable, EmittableThree, Writable}
use Rattle.sections.proofs.Emitting.{fine-first, fine-second, bytes-both, scope-same, recalled-same}

-- ## Uses

uses-append : (fs gs : Numbered Identifier) → uses (fs ++ gs) ≡ uses fs ++ uses gs
unfolding uses
uses-append [] gs = refl
uses-append ((r, f) ∷ fs) gs = ap (λ (l : Uses). field_uses r f ++ l) (uses-append fs gs) ∙ sym (append_assoc (field_uses r f) (uses fs) (uses gs))

module _ (w : List ℕ) (ts : List FuncType) where
  -- what is recalled of each use
  pub record Recall (r : ℕ) (t : FuncType) : Type 0 where
    pub below : r < 4096
    pub word : get_or w (USES + r) 0 ≡ type_number t ts

  to_all : (us : Uses) → Recalled w ts us → All Recall us
  unfolding Recalled
  to_all [] h = tt
  to_all ((r, t) ∷ us) h = (record { below = h.0; word = h.1 }, to_all us h.2)

  from_all : (us : Uses) → All Recall us → Recalled w ts us
  unfolding Recalled
  from_all [] h = tt
  from_all ((r, t) ∷ us) h = (h.0.below, h.0.word, from_all us h.1)

-- ## The walk

none_in : (k : ℕ) (Γ : Scope Identifier) → bytes_in k (entries_of Γ []) ≡ []
unfolding bytes_in entries_of resolve_all each ◌>>=◌ in_section joined concat_map
none_in k Γ = refl

-- more bytes that move the place no further are none, or the place has saturated
put_all : (cs : Bytes) {old new bs all : Bytes} {at o : ℕ} → Put old at bs o new → bs ++ cs ≡ all → past at (length all) ≤ o → Put old at all o new
unfolding past
put_all cs {old} {new} {bs} {all} {at} {o} p e h =
    let n : length all ≡ length bs + length cs = ap length (sym e) ∙ length-append bs cs in
    record {
      place = omega (arith, p.place, n);
      bytes = λ g.
          (let z : length cs ≡ 0 = omega (arith, p.place, n) in
          let x : all ≡ bs = sym e ∙ ap (λ y. bs ++ y) (empty cs z) ∙ append-nil bs in
          rw x (p.bytes (omega (arith, n))));
      long = p.long;
      short = p.short;
    }
  where
    empty : (ys : Bytes) → length ys ≡ 0 → ys ≡ []
    empty [] z = refl
    empty (y ∷ ys) z = absurd (omega (arith, z))

-- the fields before the cursor are done
pub record Emitting (k : ℕ) (s w₀ old : List ℕ) (at : ℕ) (c : Cursor) (o : ℕ) (out w : List ℕ) : Type 0 where
  pub stream : length s ≤ BYTES
  pub room : WORDS ≤ length w
  pub area : Kept LOCALS w₀ w
  pub ahead : Ahead s w c
  pub recalled : Recalled w (types_in s w) (uses (fields_ahead c s))
  pub fine : Fine (entries_of (scope_in s w) (fields_ahead c s))
  pub put : Putting old at (bytes_in k (entries_of (scope_in s w₀) (fields_in s))) (bytes_in k (entries_of (scope_in s w) (fields_ahead c s))) o out

pub emitting_begin : (k : ℕ) (s w old : List ℕ) (at : ℕ) (c : Cursor) → c ≡ begin → Writable s w → length old * 1 < 2 ^ 63 → Emitting k s w old at c at old w
unfolding fields_in
emitting_begin k s w old at c e v h = rw e (record {
  stream = v.left.stream;
  room = v.left.room;
  area = kept_same LOCALS w;
  ahead = v.left.ahead;
  recalled = v.left.recalled;
  fine = v.fine;
  put = putting_begin old at (bytes_in k (entries_of (scope_in s w) (fields_in s))) (bytes_in k (entries_of (scope_in s w) (fields_ahead begin s))) h refl;
})

module _ (k : ℕ) (s w₀ old : List ℕ) (at : ℕ) (c : Cursor) (o : ℕ) (out w : List ℕ) (v : Emitting k s w₀ old at c o out w) where
  pub emitting_long : length out ≡ length old
  emitting_long = putting_long v.put

  pub emitting_area : length w ≡ length w₀
  emitting_area = v.area.long

  -- no byte is left
  pub emitting_stop : (end : ℕ) → past at (length (bytes_in k (entries_of (scope_in s w₀) (fields_in s)))) ≤ end → end ≤ o
      → Writes (bytes_in k (entries_of (scope_in s w₀) (fields_in s))) old at o out w₀ w
  emitting_stop end h g = record { put = put_all (bytes_in k (entries_of (scope_in s w) (fields_ahead c s))) v.put.so_far v.put.same (omega (arith, h, g)); area = v.area }

  module _ (m : Met) (told : visit_in c.left c s ≡ visit_of s m) where
    -- no field is left
    pub emitting_done : m.what ≡ None → Writes (bytes_in k (entries_of (scope_in s w₀) (fields_in s))) old at o out w₀ w
    emitting_done is =
        let e = visit_done s c m told is in
        record { put = putting_done v.put (ap (λ z. bytes_in k (entries_of (scope_in s w) z)) e ∙ none_in k (scope_in s w)); area = v.area }

    module _ (f : Field) (here : ℕ) (is : m.what ≡ Some (f, here)) where
      abbrev met : Visited
      met = record { field = field_of s f; head_end = here; next = m.next }

      abbrev now : Three
      now = three f c.seen here

      -- this field's entries, and the others'
      parts : entries_of (scope_in s w) (fields_ahead c s) ≡ both (three_in (scope_in s w) s c.rec now) (entries_of (scope_in s w) (fields_ahead m.next s))
      parts =
          ap (entries_of (scope_in s w)) (visit_fields s c m told f here is)
          ∙ entries-append (scope_in s w) (fields_here c s met) (fields_ahead m.next s)
          ∙ ap (λ a. both a (entries_of (scope_in s w) (fields_ahead m.next s))) (entries-here (scope_in s w) s c m.next f here)

      used : Recalled w (types_in s w) (uses (fields_here c s met) ++ uses (fields_ahead m.next s))
      used = subst (Recalled w (types_in s w)) (ap uses (visit_fields s c m told f here is) ∙ uses-append (fields_here c s met) (fields_ahead m.next s)) v.recalled

      each_use : AllThree (Recall w (types_in s w)) s c.rec now
      each_use = uses-here (Recall w (types_in s w)) s c m.next f here
          (to_all w (types_in s w) (uses (fields_here c s met)) (recalled-left w (types_in s w) (uses (fields_here c s met)) (uses (fields_ahead m.next s)) used))

      heads : ReadableMet s m.what → HeadThree s now
      heads known = head-here s c.seen f here (visit_func_few s c m told f here is) (visit_readable s m f here is known)

      ends : WholeThree s c.rec now
      ends = whole_here s c.rec c.seen f here (visit_whole s c m told f here is w v.ahead)

      fine-both : Fine (both (three_in (scope_in s w) s c.rec now) (entries_of (scope_in s w) (fields_ahead m.next s)))
      fine-both = subst Fine parts v.fine

      ready : (e : Entry) → HeadIn s e → WholeIn s c.rec e → All (Recall w (types_in s w)) (uses_of s c.rec e) → Fine (entry_in (scope_in s w) s c.rec e) → Emittable s w c.rec e
      ready e h b u g = record {
        stream = v.stream;
        room = v.room;
        below = visit_few s c m told f here is;
        head = h;
        whole = b;
        recalled = from_all w (types_in s w) (uses_of s c.rec e) u;
        fine = g;
      }

      pub emitting_ready : ReadableMet s m.what → EmittableThree s w c.rec (three f c.seen here)
      unfolding three_in
      emitting_ready known =
          let Γ = scope_in s w in
          let all = fine-first (three_in Γ s c.rec now) (entries_of Γ (fields_ahead m.next s)) fine-both in
          let rest = fine-second (entry_in Γ s c.rec now.first) (both (entry_in Γ s c.rec now.second) (entry_in Γ s c.rec now.third)) all in
          record {
            first = ready now.first (heads known).first ends.first each_use.first (fine-first (entry_in Γ s c.rec now.first) (both (entry_in Γ s c.rec now.second) (entry_in Γ s c.rec now.third)) all);
            second = ready now.second (heads known).second ends.second each_use.second (fine-first (entry_in Γ s c.rec now.second) (entry_in Γ s c.rec now.third) rest);
            third = ready now.third (heads known).third ends.third each_use.third (fine-second (entry_in Γ s c.rec now.second) (entry_in Γ s c.rec now.third) rest);
          }

      pub emitting_again : (q : ℕ) (new w' : List ℕ) → Writes (bytes_in k (three_in (scope_in s w) s c.rec (three f c.seen here))) out o q new w w'
          → Emitting k s w₀ old at m.next q new w'
      emitting_again q new w' p =
          let d = scope-same s w w' p.area in
          record {
            stream = v.stream;
            room = rw p.area.long v.room;
            area = kept_then v.area p.area;
            ahead = ahead-kept s w w' m.next (kept_less TYPES LOCALS (omega arith) p.area) (visit_ahead s c m told f here is w v.ahead);
            recalled = recalled-same s w w' (uses (fields_ahead m.next s)) p.area (recalled_right w (types_in s w) (uses (fields_here c s met)) (uses (fields_ahead m.next s)) used);
            fine = rw d (fine-second (three_in (scope_in s w) s c.rec now) (entries_of (scope_in s w) (fields_ahead m.next s)) fine-both);
            put = rw d
                (putting_more v.put (bytes_in k (three_in (scope_in s w) s c.rec now)) (bytes_in k (entries_of (scope_in s w) (fields_ahead m.next s))) q new
                (ap (bytes_in k) parts ∙ sym (bytes-both k (three_in (scope_in s w) s c.rec now) (entries_of (scope_in s w) (fields_ahead m.next s)) fine-both)) p.put);
          }
