-- Laws of the walk over all fields, and of what is told where something is refused.
use Rattle.std.specs.Prelude.{Option as Optional, IsErrAnd, Ok, Err, Some, None}
use Rattle.std.specs.Result.{IsErr}
use Rattle.syntax.proofs.Ways.{handed}
use Rattle.syntax.specs.Refusals.{Resolved}
use Rattle.std.specs.Prelude.{if◌then◌else◌}
use Prim.Native.Nat.{ℕ, ◌+◌, ◌≤◌, min}
use mathlib.Core.Path.{◌≡◌, refl, ◌∙◌, ap}
use mathlib.Core.Bool.{Bool, true, false}
use mathlib.Core.List.{List, []}
use mathlib.Core.Option.{none, some}
use lib.ListN.{length, get_or, set}
use lib.Seq.{sets, get_or-set_same, get_or-set_other}
use native.Mathlib.Omega.{arith}
use Rattle.definition.specs.Basic.{ok, ◌>>=◌, same_bytes}
use Rattle.definition.specs.Syntax.{Bytes}
use Rattle.definition.specs.Read.{field_body}
use Rattle.definition.specs.Deinline.{imports_from, import_order}
use Rattle.definition.specs.Types.{body_uses, uses, declared, intern, all_types}
use Rattle.definition.specs.Names.{register}
use Rattle.syntax.specs.Refusals.{refusal, refused_by}
use Rattle.syntax.specs.declared.Fault.TheVariants as Faults
use Rattle.syntax.specs.declared.Refusal.{Refusal}
use Rattle.area.specs.Layout.{BYTES, NAMED, NAMES, SIZE, TOTAL, TYPES, WORDS}
use Rattle.syntax.specs.Fields.{field_of}
use Rattle.syntax.specs.declared.Field.{Field}
use Rattle.area.specs.Kept.{Kept}
use Rattle.area.proofs.Kept.{kept_same, kept_set, kept_then, kept_less, kept_word}
use Rattle.type_table.specs.Table.{type_table, types_in, Indexed}
use Rattle.type_table.proofs.Indexed.{index_kept}
use Rattle.type_table.proofs.Types.{table_kept}
use Rattle.walk.specs.Walk.{body_in, whole_field, begin, visit_in, visit_of, fields_ahead, fields_in, Ahead}
use Rattle.walk.specs.declared.Cursor.{Cursor}
use Rattle.walk.specs.declared.Met.{Met}
use Rattle.walk.proofs.Steps.{visit_ahead, visit_whole, ahead-kept}
use Rattle.import_order.specs.Order.{standing, is_late, late_after}
use Rattle.import_order.specs.declared.Standing.{Standing}
use Rattle.survey.proofs.Ordering.{Ordering, ordering_begin, ordering_done, ordering_late, ordering_again}
use Rattle.interning.specs.Uses.{Skips, uses_field, end_after, Handles}
use Rattle.interning.proofs.Handled.{handles_types, handles_stopped}
use Rattle.registration.specs.Register.{brought, Puts}
use Rattle.survey.proofs.Registering.{Registering, registering_begin, registering_above, registering_again, registering_stops, registering_done, counted-tables, counted-kept}
use Rattle.survey.specs.Survey.{types_after_order, types_then_names, lateness, fine_of, Both, Takes, UseRefused, NameRefused, Ends, Reaches, Surveys, Interns}
use Rattle.survey.specs.declared.Ended.{Ended}
use Rattle.survey.specs.declared.Took.{Took}
use Rattle.survey.specs.declared.Took.TheVariants as T
use Rattle.survey.proofs.Interning.{Interning, Knowing, interning-begin, interning-kept, interning-done, interning-refused, interning_again, knowing_begin, knowing_kept, knowing_done, knowing_again, field_skips, refused-kept, used-indexed, used-kept, used-above}
use Rattle.survey.proofs.Recalls.{known-recalled, recalled-kept}

-- ## What is refused

-- an import came too late
falls_late : (s w : List ℕ) (q : Refusal) (w' : List ℕ) → import_order (fields_in s) ≡ refused_by q → length w' ≡ length w → Surveys s w (Err q) w'
unfolding Surveys types_after_order ◌>>=◌
falls_late s w q w' e l = record { says = rw e; long = l }

-- none did, and the types or the names were refused
falls_next : (s w : List ℕ) (q : Refusal) (w' : List ℕ) → import_order (fields_in s) ≡ ok tt → types_then_names (fields_in s) ≡ refused_by q → length w' ≡ length w → Surveys s w (Err q) w'
unfolding Surveys types_after_order types_then_names ◌>>=◌
falls_next s w q w' e f l = record { says = rw e f; long = l }

-- the types were refused, or only the names
types_fall : (s : Bytes) (q : Refusal) → all_types (fields_in s) ≡ refused_by q → types_then_names (fields_in s) ≡ refused_by q
unfolding types_then_names ◌>>=◌
types_fall s q e = rw e

names_fall : (s k w : _) (q : Refusal) → all_types (fields_in s) ≡ ok (type_table k s w TYPES) → register same_bytes [] (fields_in s) ≡ refused_by q → types_then_names (fields_in s) ≡ refused_by q
unfolding types_then_names ◌>>=◌
names_fall s k w q e f = rw e f

-- an answer from words that came of others
surveys_since : (s w₀ w : List ℕ) (a : Resolved (Unit {0})) (w' : List ℕ) → Kept TYPES w₀ w → Surveys s w a w' → Surveys s w₀ a w'
unfolding Surveys
surveys_since s w₀ w (Ok u) w' k x = record {
  all = x.all;
  recalled = x.recalled;
  few = x.few;
  size = x.size;
  items = x.items;
  says = x.says;
  tables = x.tables;
  kept = kept_then k x.kept;
}
surveys_since s w₀ w (Err q) w' k x = record { says = x.says; long = x.long ∙ k.long }

-- ## Whether an import comes too late

module _ (late : Bool) (x : Standing) (t : Optional Bool) (e : lateness late x ≡ fine_of t) where
  is-late : t ≡ None → is_late late x ≡ true
  is-late y = go (is_late late x) (e ∙ ap fine_of y)
    where
      go : (b : Bool) → (if b then none else some (late_after late x)) ≡ none → b ≡ true
      go true d = refl
      go false d = let z : ◌≡◌ {A = ℕ} 0 1 = cc in absurd (omega arith)

  is-fine : (u : Bool) → t ≡ Some u → (is_late late x ≡ false) × (u ≡ late_after late x)
  is-fine u y = go (is_late late x) (e ∙ ap fine_of y)
    where
      go : (b : Bool) → (if b then none else some (late_after late x)) ≡ some u → (b ≡ false) × (u ≡ late_after late x)
      go true d = let z : ◌≡◌ {A = ℕ} 0 1 = cc in absurd (omega arith)
      go false d = (refl, cc)

-- a test that was made
module _ (late : Bool) (f : Field) (x : Standing) (d : x ≡ standing f) (b : Bool) (e : b ≡ is_late late x) where
  pub late_now : b ≡ true → lateness late (standing f) ≡ fine_of None
  late_now y = rw (← d, ← e, y)

  pub late-later : (u : Bool) → b ≡ false → u ≡ late_after late x → lateness late (standing f) ≡ fine_of (Some u)
  late-later u y z = rw (← d, ← e, y, z)

pub ruleset lates = (late_now, late-later)

-- ## On for the order of imports alone

pub record Passing (s w : List ℕ) (c : Cursor) (late : Bool) : Type 0 where
  pub order : Ordering s c late
  pub ahead : Ahead s w c

pub passing_begin : (s w : List ℕ) (c : Cursor) (late : Bool) → Ahead s w c → import_order (fields_in s) ≡ imports_from late (fields_ahead c s) → Passing s w c late
passing_begin s w c late a e = record { order = record { same = e }; ahead = a }

module _ (s w : List ℕ) (c : Cursor) (late : Bool) (v : Passing s w c late) (m : Met) (told : visit_in c.left c s ≡ visit_of s m) where
  pub passing_done : (q : Refusal) → m.what ≡ None → types_then_names (fields_in s) ≡ refused_by q → Surveys s w (Err q) w
  passing_done q is e = falls_next s w q w (ordering_done s c late v.order m told is) e refl

  module _ (f : Field) (here : ℕ) (is : m.what ≡ Some (f, here)) (t : Optional Bool) (e : lateness late (standing f) ≡ fine_of t) where
    pub passing_late : (z : Refusal) → t ≡ None → z ≡ refusal Faults.LateImport c.rec → Surveys s w (Err z) w
    passing_late z y q = rw q (falls_late s w (refusal Faults.LateImport c.rec) w (ordering_late s c late v.order m told f here is (standing f) refl (is_late late (standing f)) refl (is-late late (standing f) t e y)) refl)

    pub passing_again : (u : Bool) → t ≡ Some u → Passing s w m.next u
    passing_again u y = let z = is-fine late (standing f) t e u y in record { order = ordering_again s c late v.order m told f here is (standing f) refl (is_late late (standing f)) refl u z.0 z.1; ahead = visit_ahead s c m told f here is w v.ahead }

-- ## On for the uses alone

pub record Using (s w₀ w : List ℕ) (c : Cursor) (k : ℕ) : Type 0 where
  pub interning : Interning s w c k
  pub ahead : Ahead s w c
  pub indexed : Indexed s w k
  pub kept : Kept TYPES w₀ w
  pub long : length w ≡ length w₀

pub using_begin : (s w : List ℕ) (c : Cursor) (k : ℕ) → Ahead s w c → Indexed s w k → all_types (fields_in s) ≡ intern (type_table k s w TYPES) (uses (fields_ahead c s)) → Using s w w c k
using_begin s w c k a h e = record { interning = record { same = e }; ahead = a; indexed = h; kept = kept_same TYPES w; long = refl }

module _ (s w₀ w : List ℕ) (c : Cursor) (k : ℕ) (v : Using s w₀ w c k) (m : Met) (told : visit_in c.left c s ≡ visit_of s m) where
  pub using_done : m.what ≡ None → Interns s w₀ (Ok k) w
  using_done is = record { says = interning-done s c m told w k is v.interning; kept = v.kept }

  module _ (f : Field) (here : ℕ) (is : m.what ≡ Some (f, here)) where
    pub using_skips : Skips w c.own (body_uses (body_in (field_body (field_of s f)) (c.rec + 1) s here))
    using_skips = field_skips s c m told f here is w v.ahead

    pub using_whole : whole_field (field_body (field_of s f)) (c.rec + 1) s here ≡ true
    using_whole = visit_whole s c m told f here is w v.ahead

    module _ (q : Resolved ℕ) (w' : List ℕ) (used : Handles c.rec (end_after (field_body (field_of s f)) c.rec s here) s (uses_field c.rec (field_of s f) s here) w k q w') where
      pub using_refused : (p : Refusal) (x : Resolved ℕ) → q ≡ Err p → IsErr x → IsErrAnd x (λ y. y ≡ p) → Interns s w₀ x w'
      using_refused p x e i g = rw (handed x p i g) (record { says = interning-refused s c m told f here is w k q w' used v.interning p e; kept = kept_then v.kept (refused-kept s c m told f here is w k q w' used p e) })

      pub using_again : (k' : ℕ) → q ≡ Ok k' → Using s w₀ w' m.next k'
      using_again k' e =
          let h = used-kept s c m told f here is w k q w' used k' e in
          record {
            interning = interning_again s c m told f here is w k q w' used k' e v.interning;
            ahead = ahead-kept s w w' m.next h (visit_ahead s c m told f here is w v.ahead);
            indexed = used-indexed s c m told f here is w k q w' used k' e;
            kept = kept_then v.kept h;
            long = h.long ∙ v.long;
          }

-- what the uses ahead came to
module _ (s w : List ℕ) (q : Resolved ℕ) (w' : List ℕ) (a : Interns s w q w') where
  pub ends-ahead : (c : Cursor) → Ahead s w c → Ahead s w' c
  ends-ahead c h = ahead-kept s w w' c a.kept h

  pub ends-names : (k : ℕ) (p : Refusal) → q ≡ Ok k → register same_bytes [] (fields_in s) ≡ refused_by p → types_then_names (fields_in s) ≡ refused_by p
  ends-names k p e f = names_fall s k w' p (rw e at a.says) f

  pub ends-types : (p : Refusal) → q ≡ Err p → types_then_names (fields_in s) ≡ refused_by p
  ends-types p e = types_fall s p (rw e at a.says)

  pub ends-told : (r : Resolved (Unit {0})) (w₂ : List ℕ) → Surveys s w' r w₂ → Surveys s w r w₂
  ends-told r w₂ x = surveys_since s w w' r w₂ a.kept x

-- ## One field

module _ (s w : List ℕ) (c : Cursor) (f : Field) (here k : ℕ) (q : Resolved ℕ) (w₁ : List ℕ)
    (used : Handles c.rec (end_after (field_body (field_of s f)) c.rec s here) s (uses_field c.rec (field_of s f) s here) w k q w₁) where
  pub take-stops : (p : Refusal) → q ≡ Err p → Takes s w c f here k (T.Use p) w₁
  unfolding Takes
  take-stops p e = handles_stopped _ _ s _ w k q w₁ used p e

  module _ (k' : ℕ) (b : Resolved (Unit {0})) (w₂ : List ℕ) (e : q ≡ Ok k') (put : Puts s w₁ c.seen c.rec (brought f) b w₂) where
    took_both : Both s w c f here k k' b w₂
    took_both = record { between = w₁; used = handles_types _ _ s _ w k q w₁ used k' e; put = put }

    pub take_done : b ≡ Ok tt → Takes s w c f here k (T.Types k') w₂
    unfolding Takes
    take_done d = let y = took_both in rw d at y

    pub take-refused : (p : Refusal) → b ≡ Err p → Takes s w c f here k (T.Name p k') w₂
    unfolding Takes
    take-refused p d = let y = took_both in rw d at y

-- ## The walk

-- the order, the types and the names up to a field
pub record Found (s w₀ w : List ℕ) (c : Cursor) (late : Bool) (k : ℕ) : Type 0 where
  pub order : Ordering s c late
  pub interning : Interning s w c k
  pub knowing : Knowing s w c k
  pub registering : Registering s w c
  pub kept : Kept TYPES w₀ w

-- shut, so that a search does not go through it
unfoldable pub Shut : List ℕ → List ℕ → List ℕ → Cursor → Bool → ℕ → Type 0
Shut s w₀ w c late k = Found s w₀ w c late k

pub record Surveying (s w₀ w : List ℕ) (c : Cursor) (late : Bool) (k : ℕ) : Type 0 where
  pub found : Shut s w₀ w c late k
  pub ahead : Ahead s w c
  pub indexed : Indexed s w k
  pub long : length w ≡ length w₀
  pub room : WORDS ≤ length w
  pub stream : length s ≤ BYTES

pub surveying_begin : (s w : List ℕ) (c : Cursor) (k : ℕ) → c ≡ begin → length s ≤ BYTES → WORDS ≤ length w → Indexed s w k → Ahead s w begin → type_table k s w TYPES ≡ declared (fields_in s) → Surveying s w w c false k
unfolding Shut
surveying_begin s w c k e b r h a t = record {
  found = record {
    order = ordering_begin s c e;
    interning = interning-begin s w k c e t;
    knowing = knowing_begin s w k c e;
    registering = registering_begin s w c e;
    kept = kept_same TYPES w;
  };
  ahead = rw e a;
  indexed = h;
  long = refl;
  room = r;
  stream = b;
}

opened : {s w₀ w : List ℕ} {c : Cursor} {late : Bool} {k : ℕ} → Surveying s w₀ w c late k → Found s w₀ w c late k
unfolding Shut
opened v = v.found

module _ (s w₀ w : List ℕ) (c : Cursor) (late : Bool) (k : ℕ) (v : Surveying s w₀ w c late k) (m : Met) (told : visit_in c.left c s ≡ visit_of s m) where
  -- no field is left: the totals are put
  pub surveying_done : (w₁ w₂ : List ℕ) (c' : Cursor) (u : Bool) (j : ℕ) → m.what ≡ None → w₁ ≡ set w TOTAL k → w₂ ≡ sets w₁ NAMED c.seen.counts → Reaches s w₀ (T.Types j) c' u w₂
  unfolding Reaches types_after_order types_in ◌>>=◌
  surveying_done w₁ w₂ c' u j is d e =
      let all = interning-done s c m told w k is (opened v).interning in
      let o = ordering_done s c late (opened v).order m told is in
      let a : Kept TOTAL w w₁ = rw d (kept_set TOTAL TOTAL k w (omega arith)) in
      let far : WORDS ≤ length w₁ = omega (arith, a.long, v.room) in
      let g : Registering s w₁ c = registering_above s w w₁ c (λ i l. rw d (get_or-set_other w TOTAL i k 0 (λ z. omega arith))) (opened v).registering in
      let b : Kept NAMED w₁ w₂ = counted-kept s w₁ c g far w₂ e in
      let both : Kept TOTAL w w₂ = kept_then a (kept_less TOTAL NAMED (omega arith) b) in
      let word : get_or w₂ TOTAL 0 ≡ k = kept_word b TOTAL (omega arith) ∙ rw d (get_or-set_same w TOTAL k 0 (omega (arith, v.room))) in
      let few : min k 256 ≡ k = omega (arith, v.indexed.few) in
      let table : type_table k s w₂ TYPES ≡ type_table k s w TYPES = table_kept k s TYPES TOTAL (omega (arith, v.indexed.few)) both in
      record {
        all = rw (o, word, few, table) all;
        recalled = rw (word, few, table) (recalled-kept TOTAL (type_table k s w TYPES) (uses (fields_in s)) (omega arith) both
            (known-recalled w (type_table k s w TYPES) (uses (fields_in s)) (knowing_done s c m told w k is (opened v).knowing)));
        few = rw word v.indexed.few;
        size = rw (word, few, table, kept_word both SIZE (omega arith)) v.indexed.size;
        items = g.items;
        says = registering_done s w₁ c g m told is;
        tables = counted-tables s w₁ c g far w₂ e;
        kept = kept_then (opened v).kept (kept_less TYPES TOTAL (omega arith) both);
      }

  module _ (f : Field) (here : ℕ) (is : m.what ≡ Some (f, here)) where
    pub surveying_skips : Skips w c.own (body_uses (body_in (field_body (field_of s f)) (c.rec + 1) s here))
    surveying_skips = field_skips s c m told f here is w v.ahead

    pub surveying_whole : whole_field (field_body (field_of s f)) (c.rec + 1) s here ≡ true
    surveying_whole = visit_whole s c m told f here is w v.ahead

    module _ (t : Optional Bool) (e : lateness late (standing f) ≡ fine_of t) where
      pub surveying_late : (c' : Cursor) (u : Bool) → t ≡ None → Reaches s w₀ (T.Late c.rec) c' u w
      unfolding Reaches Surveys
      surveying_late c' u y = falls_late s w₀ (refusal Faults.LateImport c.rec) w (ordering_late s c late (opened v).order m told f here is (standing f) refl (is_late late (standing f)) refl (is-late late (standing f) t e y)) v.long

      -- no import was too late up to the next field
      pub surveying_order : (u : Bool) → t ≡ Some u → Ordering s m.next u
      surveying_order u y = let z = is-fine late (standing f) t e u y in ordering_again s c late (opened v).order m told f here is (standing f) refl (is_late late (standing f)) refl u z.0 z.1

    -- the uses were handled, and the items registered or not
    module _ (k' : ℕ) (b : Resolved (Unit {0})) (w₂ : List ℕ) (y : Both s w c f here k k' b w₂) where
      abbrev w₁ : List ℕ
      w₁ = y.between

      handled : Handles c.rec (end_after (field_body (field_of s f)) c.rec s here) s (uses_field c.rec (field_of s f) s here) w k (Ok k') w₁
      unfolding Handles
      handled = y.used

      far : WORDS ≤ length w₁
      far = omega (arith, y.used.kept.long, v.room)

      registers : Registering s w₁ c
      registers = registering_above s w w₁ c (used-above s c m told f here is w k (Ok k') w₁ handled k' refl) (opened v).registering

      both : Kept TYPES w w₂
      both = kept_then y.used.kept (kept_less TYPES NAMES (omega arith) y.put.kept)

      goes_ahead : Ahead s w₂ m.next
      goes_ahead = ahead-kept s w w₂ m.next both (visit_ahead s c m told f here is w v.ahead)

      interns : Interning s w₂ m.next k'
      interns = interning-kept s w₁ w₂ m.next k' y.used.indexed.few y.put.kept (interning_again s c m told f here is w k (Ok k') w₁ handled k' refl (opened v).interning)

      still : Indexed s w₂ k'
      still = index_kept NAMES s k' (omega arith) y.put.kept y.used.indexed

      stops : (p : Refusal) → b ≡ Err p → register same_bytes [] (fields_in s) ≡ refused_by p
      stops p e = registering_stops s c m told f here is w₁ registers b w₂ y.put far p e

      goes_on : (u : Bool) → b ≡ Ok tt → Ordering s m.next u → Surveying s w₀ w₂ m.next u k'
      unfolding Shut
      goes_on u e o = record {
        found = record {
          order = o;
          interning = interns;
          knowing = knowing_kept s w₁ w₂ m.next k' y.used.indexed.few y.put.kept (knowing_again s c m told f here is w k (Ok k') w₁ handled k' refl (opened v).knowing);
          registering = registering_again s c m told f here is w₁ registers b w₂ y.put far e;
          kept = kept_then (opened v).kept both;
        };
        ahead = goes_ahead;
        indexed = still;
        long = both.long ∙ v.long;
        room = omega (arith, both.long, v.room);
        stream = v.stream;
      }

    module _ (q : Took) (w₂ : List ℕ) (took : Takes s w c f here k q w₂) where
      -- on to the next field
      pub surveying_again : (k' : ℕ) (u : Bool) → q ≡ T.Types k' → Ordering s m.next u → Surveying s w₀ w₂ m.next u k'
      unfolding Takes
      surveying_again k' u e o = goes_on k' (Ok tt) w₂ (rw e at took) u refl o

-- a use was refused
module _ (q : Took) (p : Refusal) (e : q ≡ T.Use p) (s w : List ℕ) (c : Cursor) (f : Field) (here k : ℕ) (w₁ : List ℕ) (took : Takes s w c f here k q w₁)
    (m : Met) (is : m.what ≡ Some (f, here)) (told : visit_in c.left c s ≡ visit_of s m) (w₀ : List ℕ) (late : Bool) (v : Surveying s w₀ w c late k) where
  used : Handles c.rec (end_after (field_body (field_of s f)) c.rec s here) s (uses_field c.rec (field_of s f) s here) w k (Err p) w₁
  unfolding Handles Takes
  used = rw e at took

  kept-uses : Kept TYPES w w₁
  kept-uses = refused-kept s c m told f here is w k (Err p) w₁ used p refl

  surveying_refused : (u : Bool) → Ordering s m.next u → Reaches s w₀ (T.Use p) m.next u w₁
  unfolding Reaches
  surveying_refused u o = (
    record {
      ahead = ahead-kept s w w₁ m.next kept-uses (visit_ahead s c m told f here is w v.ahead);
      order = o.same;
      says = types_fall s p (interning-refused s c m told f here is w k (Err p) w₁ used (opened v).interning p refl);
    },
    kept_then (opened v).kept kept-uses,
  )

-- a name was there already
module _ (q : Took) (p : Refusal) (k' : ℕ) (e : q ≡ T.Name p k') (s w : List ℕ) (c : Cursor) (f : Field) (here k : ℕ) (w₁ : List ℕ) (took : Takes s w c f here k q w₁)
    (m : Met) (is : m.what ≡ Some (f, here)) (told : visit_in c.left c s ≡ visit_of s m) (w₀ : List ℕ) (late : Bool) (v : Surveying s w₀ w c late k) where
  named : Both s w c f here k k' (Err p) w₁
  unfolding Takes
  named = rw e at took

  surveying_taken : (u : Bool) → Ordering s m.next u → Reaches s w₀ (T.Name p k') m.next u w₁
  unfolding Reaches
  surveying_taken u o = (
    record {
      ahead = goes_ahead s w₀ w c late k v m told f here is k' (Err p) w₁ named;
      order = o.same;
      indexed = still s w₀ w c late k v m told f here is k' (Err p) w₁ named;
      types = (interns s w₀ w c late k v m told f here is k' (Err p) w₁ named).same;
      says = stops s w₀ w c late k v m told f here is k' (Err p) w₁ named p refl;
    },
    kept_then (opened v).kept (both s w₀ w c late k v m told f here is k' (Err p) w₁ named),
  )

-- either
pub surveying_stops : (q : Took) → ((n : ℕ) → q ≡ T.Types n → ⊥) → (s w : List ℕ) (c : Cursor) (f : Field) (here k : ℕ) (w₁ : List ℕ) → Takes s w c f here k q w₁
    → (m : Met) → m.what ≡ Some (f, here) → visit_in c.left c s ≡ visit_of s m → (w₀ : List ℕ) (late : Bool) → Surveying s w₀ w c late k
    → (u : Bool) → Ordering s m.next u → Reaches s w₀ q m.next u w₁
unfolding Takes
surveying_stops (T.Types k') h = absurd (h k' refl)
surveying_stops (T.Late r) h = λ s w c f here k w₁ took. absurd took
surveying_stops (T.Use p) h = surveying_refused (T.Use p) p refl
surveying_stops (T.Name p k') h = surveying_taken (T.Name p k') p k' refl

-- so it is told
pub reaches_so : (s w : List ℕ) (q : Took) (c : Cursor) (late : Bool) (r : Ended) (w' : List ℕ) → Ends q c late r → Reaches s w q c late w' → Reaches s w r.how r.next r.late w'
reaches_so s w q c late r w' e h = let a = e.how in let b = e.next in let d = e.late in rw (a, b, d) h

-- ## What is told then

module _ (s w : List ℕ) (q : Took) (c : Cursor) (late : Bool) (w₁ : List ℕ) (told : Reaches s w q c late w₁) where
  pub told-done : (k : ℕ) → q ≡ T.Types k → Surveys s w (Ok tt) w₁
  unfolding Reaches Surveys
  told-done k e = rw e at told

  pub told-late : (r : ℕ) (z : Refusal) → q ≡ T.Late r → z ≡ refusal Faults.LateImport r → Surveys s w (Err z) w₁
  unfolding Reaches Surveys
  told-late r z e d = rw d (rw e at told)

  module _ (p : Refusal) (e : q ≡ T.Use p) where
    reached_use : UseRefused s w₁ c late p × Kept TYPES w w₁
    unfolding Reaches
    reached_use = rw e at told

    pub use_refused : UseRefused s w₁ c late p
    use_refused = reached_use.0

    pub use_told : (a : Resolved (Unit {0})) (w₂ : List ℕ) → Surveys s w₁ a w₂ → Surveys s w a w₂
    use_told a w₂ y = surveys_since s w w₁ a w₂ reached_use.1 y

  module _ (p : Refusal) (k : ℕ) (e : q ≡ T.Name p k) where
    reached_name : NameRefused s w₁ c late k p × Kept TYPES w w₁
    unfolding Reaches
    reached_name = rw e at told

    pub name_refused : NameRefused s w₁ c late k p
    name_refused = reached_name.0

    pub name_room : WORDS ≤ length w → WORDS ≤ length w₁
    name_room h = omega (arith, reached_name.1.long)

    pub name_told : (a : Resolved (Unit {0})) (w₂ : List ℕ) → Surveys s w₁ a w₂ → Surveys s w a w₂
    name_told a w₂ y = surveys_since s w w₁ a w₂ reached_name.1 y
