-- The pass over all fields: each field's entries are checked and tallied, in stream order.
use Rattle.std.specs.Prelude.{Ok, Err, Some, None, IsErrAnd}
use Rattle.std.specs.Result.{IsErr}
use Rattle.syntax.specs.Refusals.{Resolved, refused_by}
use Rattle.syntax.proofs.Ways.{handed}
use Prim.Native.Nat.{ℕ, ◌*◌, ◌^◌, ◌≤◌, ◌<◌}
use mathlib.Core.Path.{◌≡◌, refl, sym, ◌∙◌, ap}
use mathlib.Core.List.{List, [], ◌++◌, append_assoc, append-nil}
use lib.ListN.{length}
use native.Mathlib.Omega.{arith}
use Rattle.definition.specs.Basic.{Answer, ok, fails, ◌>>=◌, each, concat_map}
use Rattle.definition.specs.Syntax.{Bytes, Identifier}
use Rattle.definition.specs.Types.{uses}
use Rattle.definition.specs.Names.{Scope, resolve_all}
use Rattle.syntax.specs.declared.Refusal.{Refusal}
use Rattle.area.specs.Layout.{LOCALS, TYPES, WORDS}
use Rattle.syntax.specs.Fields.{field_of}
use Rattle.syntax.specs.declared.Field as Code
use Rattle.area.specs.Kept.{Kept}
use Rattle.area.proofs.Kept.{kept_then, kept_same, kept_less}
use Rattle.type_table.specs.Table.{types_in, Recalled}
use Rattle.walk.specs.Walk.{begin, ReadableMet, visit_in, visit_of, fields_here, fields_ahead, fields_in, Ahead}
use Rattle.walk.specs.declared.Cursor.{Cursor}
use Rattle.walk.specs.declared.Met.{Met}
use Rattle.walk.proofs.Steps.{visit_done, visit_fields, visit_whole, visit_ahead, ahead-kept, visit_func_few, visit_readable}
use Rattle.laws.proofs.Uses.{uses-append}
use Rattle.scope.specs.Scope.{scope_in}
use Rattle.scope.proofs.Frames.{scope_kept, recalled-left, recalled_right, recalled-scope}
use Rattle.deinline.specs.Entry.{Entries, entries_of, both, three, three_in}
use Rattle.deinline.proofs.Fields.{entries-append, entries-here}
use Rattle.deinline.proofs.Uses.{recalled-here, head-here, whole_here}
use Rattle.kept.specs.Tally.{tallies, tallied, no_tally, Slots, Keeps, Tallied, ReadyThree, ChecksIn}
use Rattle.kept.specs.declared.tally.Tally.{Tally}
use Rattle.kept.proofs.Tallies.{tallies-append, tallies_slots}
use Rattle.kept.proofs.Keeping.{keeps-none, keeps_then}
use Rattle.resolve.proofs.Checking.{was_fine, was_not, area-long, kept-long, checks_fine, checks_not}

-- some entries before an answer's
onto : (xs ys : Entries) (a b : Answer Entries) → a ≡ ok ys → both (ok xs) (both a b) ≡ both (ok (xs ++ ys)) b
unfolding both
onto xs ys a (ok zs) e = rw e (ap ok (sym (append_assoc xs ys zs)))
onto xs ys a (fails q) e = rw e refl

onto_not : (xs : Entries) (r : Refusal) (a b : Answer Entries) → a ≡ refused_by r → both (ok xs) (both a b) ≡ refused_by r
unfolding both
onto_not xs r a b e = rw e refl

nothing_onto : (a : Answer Entries) → both (ok []) a ≡ a
unfolding both
nothing_onto (ok xs) = refl
nothing_onto (fails q) = refl

onto_nothing : (xs : Entries) → both (ok xs) (ok []) ≡ ok xs
unfolding both
onto_nothing xs = ap ok (append-nil xs)

entries_none : (Γ : Scope Identifier) → entries_of Γ [] ≡ ok []
unfolding entries_of resolve_all each ◌>>=◌ concat_map
entries_none Γ = refl

pub record Sweeping (s w₀ w : List ℕ) (old new : Bytes) (c : Cursor) (t₀ t : Tally) : Type 0 where
  pub start : t₀ ≡ no_tally
  pub done : Entries
  pub same : entries_of (scope_in s w₀) (fields_in s) ≡ both (ok done) (entries_of (scope_in s w₀) (fields_ahead c s))
  pub tally : t ≡ tallies no_tally done
  pub keeps : Keeps old no_tally done new
  pub kept : Kept LOCALS w₀ w
  pub ahead : Ahead s w c
  pub recalled : Recalled w₀ (types_in s w₀) (uses (fields_ahead c s))

-- before the first field
pub sweep_begin : (s w : List ℕ) (old : Bytes) (c : Cursor) (t : Tally) → c ≡ begin → t ≡ no_tally → length old * 1 < 2 ^ 63 → Ahead s w begin → Recalled w (types_in s w) (uses (fields_in s))
    → Sweeping s w w old old c t t
unfolding fields_in tallies
sweep_begin s w old c t e d f a h =
    record {
      start = d;
      done = [];
      same = sym (nothing_onto (entries_of (scope_in s w) (fields_in s))) ∙ rw e refl;
      tally = d;
      keeps = keeps-none old no_tally f;
      kept = kept_same LOCALS w;
      ahead = rw e a;
      recalled = rw e h;
    }

none_slots : Slots no_tally
none_slots = record { sizes = refl; counts = refl }

module _ (s w₀ w : List ℕ) (old mid : Bytes) (c : Cursor) (t₀ t : Tally) (v : Sweeping s w₀ w old mid c t₀ t) where
  pub sweep_long : WORDS ≤ length w₀ → WORDS ≤ length w
  sweep_long h = rw v.kept.long h

  pub sweep_ahead : Ahead s w c
  sweep_ahead = v.ahead

  pub sweep_slots : Slots t
  sweep_slots = rw v.tally (tallies_slots no_tally v.done none_slots)

  module _ (m : Met) (told : visit_in c.left c s ≡ visit_of s m) where
    -- no field is left
    pub sweep_done : m.what ≡ None → Tallied (entries_of (scope_in s w₀) (fields_in s)) no_tally old t mid
    sweep_done is =
        record { entries = v.done; is = v.same ∙ rw (visit_done s c m told is, entries_none (scope_in s w₀)) (onto_nothing v.done); tally = v.tally; keeps = v.keeps }

    module _ (f : Code.Field) (here : ℕ) (is : m.what ≡ Some (f, here)) where
      fields : entries_of (scope_in s w₀) (fields_ahead c s) ≡ both (three_in (scope_in s w) s c.rec (three f c.seen here)) (entries_of (scope_in s w₀) (fields_ahead m.next s))
      fields =
          let k : scope_in s w ≡ scope_in s w₀ = scope_kept s w₀ w v.kept in
          rw (visit_fields s c m told f here is, entries-append (scope_in s w₀), k) (ap (λ a. both a (entries_of (scope_in s w₀) (fields_ahead m.next s))) (entries-here (scope_in s w₀) s c m.next f here))

      uses_are_lem : uses (fields_ahead c s) ≡ uses (fields_here c s (record { field = field_of s f; head_end = here; next = m.next })) ++ uses (fields_ahead m.next s)
      uses_are_lem = rw (visit_fields s c m told f here is) (uses-append (fields_here c s (record { field = field_of s f; head_end = here; next = m.next })) (fields_ahead m.next s))

      -- the type uses of this field have their numbers
      pub sweep_uses : Recalled w₀ (types_in s w₀) (uses (fields_here c s (record { field = field_of s f; head_end = here; next = m.next })))
      sweep_uses = recalled-left w₀ (types_in s w₀) _ (uses (fields_ahead m.next s)) (rw uses_are_lem at v.recalled)

      -- this field's entries are ready
      pub sweep_ready : ReadableMet s m.what → ReadyThree s w c.rec (three f c.seen here)
      sweep_ready known =
          let k = v.kept in
          let a = recalled-here w₀ (types_in s w₀) s c m.next f here sweep_uses in
          let z = whole_here s c.rec c.seen f here (visit_whole s c m told f here is w v.ahead) in
          let b = head-here s c.seen f here (λ i es t ls e. visit_func_few s c m told f here is i es t ls e) (visit_readable s m f here is known) in
          record {
            first = record { recalled = recalled-scope s w₀ w _ k a.first; whole = z.first; head = b.first };
            second = record { recalled = recalled-scope s w₀ w _ k a.second; whole = z.second; head = b.second };
            third = record { recalled = recalled-scope s w₀ w _ k a.third; whole = z.third; head = b.third };
          }

      -- one that is fine
      pub sweep_again : (t' : Tally) (w' : List ℕ) (new : Bytes) → ChecksIn (three_in (scope_in s w) s c.rec (three f c.seen here)) t w mid (Ok t') w' new → Sweeping s w₀ w' old new m.next t₀ t'
      sweep_again t' w' new h =
          let y = was_fine _ t w w' mid new t' h in
          let k : Kept LOCALS w w' = h.area in
          record {
            start = v.start;
            done = v.done ++ y.entries;
            same = v.same ∙ rw fields (onto v.done y.entries (three_in (scope_in s w) s c.rec (three f c.seen here)) (entries_of (scope_in s w₀) (fields_ahead m.next s)) y.is);
            tally = y.tally ∙ ap (λ (z : Tally). tallies z y.entries) v.tally ∙ sym (tallies-append no_tally v.done y.entries);
            keeps = keeps_then old mid new no_tally t v.done y.entries v.tally v.keeps y.keeps;
            kept = kept_then v.kept k;
            ahead = visit_ahead s c m told f here is w' (ahead-kept s w w' c (kept_less TYPES LOCALS (omega arith) k) v.ahead);
            recalled = recalled_right w₀ (types_in s w₀) (uses (fields_here c s (record { field = field_of s f; head_end = here; next = m.next }))) (uses (fields_ahead m.next s)) (rw uses_are_lem at v.recalled);
          }

      -- one that is not
      sweep_stops : (q : Refusal) → three_in (scope_in s w) s c.rec (three f c.seen here) ≡ refused_by q → entries_of (scope_in s w₀) (fields_in s) ≡ refused_by q
      sweep_stops q e = v.same ∙ rw fields (onto_not v.done q (three_in (scope_in s w) s c.rec (three f c.seen here)) (entries_of (scope_in s w₀) (fields_ahead m.next s)) e)

  -- what was written is as long as it was
  module _ (a : Answer Entries) (q : Resolved Tally) (w' : List ℕ) (new : Bytes) (h : ChecksIn a t w mid q w' new) where
    pub sweep_length : length w' ≡ length w₀
    sweep_length = area-long a t w w' mid new q h ∙ v.kept.long

    pub sweep_bytes : length new ≡ length old
    sweep_bytes = kept-long a t w w' mid new q h ∙ v.keeps.long

-- ## What the code answers

module _ (s w₀ w : List ℕ) (old mid : Bytes) (c : Cursor) (t₀ t : Tally) (v : Sweeping s w₀ w old mid c t₀ t) (m : Met) (told : visit_in c.left c s ≡ visit_of s m) where
  pub swept : m.what ≡ None → ChecksIn (entries_of (scope_in s w₀) (fields_in s)) no_tally w₀ old (Ok t) w mid
  swept is = checks_fine _ no_tally w₀ w old mid t (sweep_done s w₀ w old mid c t₀ t v m told is) v.kept

  pub stopped : (a : Answer Entries) (q : Resolved (Unit {0})) (w' : List ℕ) (new : Bytes) (f : Code.Field) (here : ℕ) (k : Refusal) (t' : Tally) → ChecksIn a t w mid (Err k) w' new → m.what ≡ Some (f, here)
      → a ≡ three_in (scope_in s w) s c.rec (three f c.seen here) → IsErr q → IsErrAnd q (λ e. e ≡ k)
      → ChecksIn (entries_of (scope_in s w₀) (fields_in s)) no_tally w₀ old (tallied q t') w' new
  stopped a q w' new f here k t' h is g i j =
      rw (handed q k i j)
      (checks_not _ no_tally w₀ w' old new k (sweep_stops s w₀ w old mid c t₀ t v m told f here is k (sym g ∙ (was_not a t w w' mid new k h).is))
      (sweep_length s w₀ w old mid c t₀ t v a (Err k) w' new h) (sweep_bytes s w₀ w old mid c t₀ t v a (Err k) w' new h))
