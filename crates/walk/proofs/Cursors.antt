-- Where the walk goes on by the work area is where the model goes on.
use Rattle.std.specs.Prelude.{Ok, Err}
use Rattle.syntax.specs.Reads.{Read}
use mathlib.Core.Path.{◌≡◌, refl, ap, sym, ◌∙◌, subst}
use Prim.Native.Nat.{ℕ, zero, suc, ◌+◌, ◌-◌, ◌≤◌, ◌<◌}
use mathlib.Core.Bool.{Bool, true, false}
use mathlib.Core.List.{List, [], ◌∷◌, ◌++◌}
use mathlib.Core.Option.{none, some}
use lib.ListN.{length, take, drop, get_or, length-take, length-drop}
use lib.Seq.{get_or-take, get_or-drop}
use borrow.Author.Tests.{lt-leb, le-leb}
use native.Mathlib.Omega.{arith}
use native.Mathlib.Nat.{add-zero}
use mir.Syntax.{w32}
use mir.Val.{Fits}
use Rattle.definition.specs.Syntax.{Bytes}
use Rattle.definition.specs.Instructions.{begun}
use Rattle.definition.specs.Records.{field_rec}
use Rattle.definition.specs.Spaces.{brings, source_space, segments}
use Rattle.definition.specs.Read.{field_body, source_body, own_body, is_start}
use Rattle.area.specs.Layout.{MARK, STRICT, end_at}
use Rattle.syntax.specs.Items.{room_of, source_of}
use Rattle.syntax.specs.declared.Seen.{Seen}
use Rattle.syntax.specs.declared.Own.TheVariants as O
use Rattle.syntax.specs.declared.Source.{Source}
use Rattle.syntax.specs.declared.Source.TheVariants as S
use Rattle.reread.specs.Known.{ReadableHead, ReadableField}
use Rattle.syntax.specs.Fields.{field_of, field_at}
use Rattle.syntax.specs.declared.Fault.{Fault}
use Rattle.syntax.specs.declared.Field.{Field}
use Rattle.syntax.specs.declared.Field.TheVariants as F
use Rattle.next_record.specs.Uses.{any_use, end_word}
use Rattle.syntax.specs.Marks.{no_marks, inside_of, marks_in}
use Rattle.next_record.specs.Places.{body_of}
use Rattle.counting.specs.Counting.{one_more, source_brings, field_seen}
use Rattle.next_record.specs.Answers.{field_depth}
use Rattle.counting.proofs.Counts.{extern_brings_lem, own-brings}
use Rattle.walk.specs.Walk.{on_visit, body_in, after_field, counting, seen_with, cursor_after, visit_at, visit_in, end_of, end_here, ends_from, Ahead, end_record, end_in, stop_in, cursor_in}
use Rattle.instr.proofs.Stretches.{body_reach}
use Rattle.walk.specs.declared.Cursor.{Cursor}
use Rattle.walk.specs.declared.Stop.{Stop}

-- ## The small steps of the code

-- the walk goes on right there
pub stop_here : (w : List ℕ) (c : Cursor) (d here : ℕ) → d < 1 → ◌≡◌ {A = Stop} (record { at = here; rec = c.rec + 1 }) (stop_in d w c here)
stop_here w c zero here h = refl
stop_here w c (suc d) here h = absurd (omega arith)

-- after a body
pub stop_end : (w : List ℕ) (c : Cursor) (r : Stop) (d here : ℕ) → 1 ≤ d → r ≡ end_in w c.own → r ≡ stop_in d w c here
stop_end w c r zero here h e = absurd (omega arith)
stop_end w c r (suc d) here h e = e

pub ruleset stops = (stop_here, stop_end)

-- ## What a field brings

source-seen : (s : Bytes) (c : Seen) (x : Source)
    → source_brings c x ≡ record { counts = (counting c (source_space (source_of s x) ∷ segments (source_of s x))).counts; started = c.started }
unfolding source_space segments counting one_more
source-seen s c (S.Own o) = rw (← own-brings s o)
source-seen s c (S.Imported n x) = rw (← extern_brings_lem s x)
source-seen s c (S.TableOf w xs) = refl
source-seen s c (S.MemOf w d) = refl

field-seen : (s : Bytes) (c : Seen) (f : Field) → field_seen c f ≡ seen_with c (field_of s f)
unfolding seen_with counting brings is_start one_more
field-seen s c (F.Type i ps rs) = refl
field-seen s c (F.Import n i x) = rw (← extern_brings_lem s x)
field-seen s c (F.Item i es x) = source-seen s c x
field-seen s c (F.Export n k x) = refl
field-seen s c (F.Start x) = refl
field-seen s c (F.Elem i m xs) = refl
field-seen s c (F.Data i m d) = refl

-- ## Which fields have a body

pub depth-few : (f : Field) → field_depth f ≤ 1
depth-few (F.Type i ps rs) = omega arith
depth-few (F.Import n i x) = omega arith
depth-few (F.Item i es (S.Own (O.Func t ls))) = omega arith
depth-few (F.Item i es (S.Own (O.Table t))) = omega arith
depth-few (F.Item i es (S.Own (O.Mem l))) = omega arith
depth-few (F.Item i es (S.Own (O.Global t c))) = omega arith
depth-few (F.Item i es (S.Imported n x)) = omega arith
depth-few (F.Item i es (S.TableOf w xs)) = omega arith
depth-few (F.Item i es (S.MemOf w d)) = omega arith
depth-few (F.Export n k x) = omega arith
depth-few (F.Start x) = omega arith
depth-few (F.Elem i m xs) = omega arith
depth-few (F.Data i m d) = omega arith

-- one own function more fits a word
pub own-fits : (c : Cursor) (f : Field) (d : ℕ) → d ≡ field_depth f → 1 ≤ c.left → c.own + c.left ≤ 4096 → Fits w32 (c.own + d)
own-fits c f d e h g = let k = depth-few f in record { fits = omega arith }

pub ruleset depths = (own-fits)

body_is : (s : Bytes) (f : Field) → field_body (field_of s f) ≡ body_of (field_depth f) no_marks
unfolding field_body source_body own_body inside_of marks_in
body_is s (F.Type i ps rs) = refl
body_is s (F.Import n i x) = refl
body_is s (F.Item i es (S.Own (O.Func t ls))) = refl
body_is s (F.Item i es (S.Own (O.Table t))) = refl
body_is s (F.Item i es (S.Own (O.Mem l))) = refl
body_is s (F.Item i es (S.Own (O.Global t c))) = refl
body_is s (F.Item i es (S.Imported n x)) = refl
body_is s (F.Item i es (S.TableOf w xs)) = refl
body_is s (F.Item i es (S.MemOf w d)) = refl
body_is s (F.Export n k x) = refl
body_is s (F.Start x) = refl
body_is s (F.Elem i m xs) = refl
body_is s (F.Data i m d) = refl

begun-is : body_of 1 no_marks ≡ some begun
unfolding inside_of marks_in
begun-is = refl

-- ## The two words of a body's end

-- the first two words from a place on
pub end_words_lem : (w : List ℕ) (n a x : ℕ) (more : List ℕ) → drop (end_at n) (take STRICT w) ≡ a ∷ x ∷ more → (get_or w (end_at n) 0 ≡ a) × (get_or w (end_at n + 1) 0 ≡ x)
end_words_lem w n a x more e =
    let l : 2 ≤ length (drop (end_at n) (take STRICT w)) = rw e (omega arith) in
    let m : end_at n + 1 < STRICT = omega (arith, length-drop (end_at n) (take STRICT w), length-take STRICT w) in (
      sym (get_or-take STRICT w (end_at n) 0 (omega arith)) ∙ rw add-zero at (sym (get_or-drop (end_at n) (take STRICT w) 0 0)) ∙ ap (λ (l : List ℕ). get_or l 0 0) e,
      sym (get_or-take STRICT w (end_at n + 1) 0 m) ∙ sym (get_or-drop (end_at n) (take STRICT w) 1 0) ∙ ap (λ (l : List ℕ). get_or l 1 0) e,
    )

-- the second word's record
end_record_lem : (r : ℕ) (u : Bool) → r ≤ 4096 → end_record (end_word r u) ≡ r
unfolding end_record end_word
end_record_lem r true h = let l : MARK ≤ r + MARK = omega arith in rw (le-leb _ _ l) (omega arith)
end_record_lem r false h = let l : r < MARK = omega arith in rw (lt-leb _ _ l)

-- where the next field is read, its cursor is the one that the work area gives
module _ (s : Bytes) (w : List ℕ) (c : Cursor) (v : Ahead s w c) (f : Field) (here : ℕ) where
  cursor_is : 1 ≤ c.left → c.rec < 4096 → visit_at c s ≡ some (record { field = field_of s f; head_end = here; next = cursor_after c (field_of s f) s here })
      → cursor_in w c f here ≡ cursor_after c (field_of s f) s here
  unfolding cursor_in cursor_after ends_from end_here end_in
  cursor_is h few e = go c.left refl (field_depth f) refl (depth-few f)
    where
      go : (left : ℕ) → c.left ≡ left → (d : ℕ) → field_depth f ≡ d → d ≤ 1 → cursor_in w c f here ≡ cursor_after c (field_of s f) s here
      go zero l d g k = absurd (omega arith)
      go (suc n) l zero g k = let b : field_body (field_of s f) ≡ none = body_is s f ∙ rw g in rw (g, b, field-seen s c.seen f)
      go (suc n) l (suc zero) g k =
          let b : field_body (field_of s f) ≡ some begun = body_is s f ∙ rw g begun-is in
          let next = cursor_after c (field_of s f) s here in
          let x : ends_from c.left c s ≡ end_of (field_body (field_of s f)) next (body_in (field_body (field_of s f)) (c.rec + 1) s here) ++ ends_from n next s =
          ap (λ m. ends_from m c s) l ∙ ap (λ m. on_visit m (λ v. end_here c s v ++ ends_from n v.next s) []) e in
          let r = (after_field (some begun) (c.rec + 1) s here).rec in
          let u = any_use (body_in (some begun) (c.rec + 1) s here) in
          let y = end_words_lem w c.own (after_field (some begun) (c.rec + 1) s here).at (end_word r u) (ends_from n next s ++ v.ends.rest) (v.ends.is ∙ ap (λ z. z ++ v.ends.rest) x ∙ rw b) in
          let y₀ = y.0 in
          let y₁ = y.1 in
          let z = end_record_lem r u ((body_reach s 0 (c.rec + 1) here).most (omega arith)) in
          rw (g, b, field-seen s c.seen f, y₀, y₁, z)
      go (suc n) l (suc (suc d)) g k = absurd (omega arith)

-- ## The ways out of a visit

module _ (s : Bytes) (c : Cursor) where
  -- no field may still be visited
  pub visit_none : c.left < 1 → visit_in c.left c s ≡ none
  visit_none h = go c.left h
    where
      go : (left : ℕ) → left < 1 → visit_in left c s ≡ none
      go zero h = refl
      go (suc n) h = absurd (omega arith)

  some_left : 1 ≤ c.left → visit_in c.left c s ≡ visit_at c s
  some_left h = go c.left h
    where
      go : (left : ℕ) → 1 ≤ left → visit_in left c s ≡ visit_at c s
      go zero h = absurd (omega arith)
      go (suc n) h = refl

  -- the records end
  pub visit_full : 1 ≤ c.left → 4096 ≤ c.rec → visit_in c.left c s ≡ none
  unfolding visit_at
  visit_full l h = some_left l ∙ rw (le-leb _ _ h)

  -- the stream ends
  pub visit_end : 1 ≤ c.left → c.rec < 4096 → length s ≤ c.at → visit_in c.left c s ≡ none
  unfolding visit_at
  visit_end l h g = some_left l ∙ rw (lt-leb _ _ h, le-leb _ _ g)

  module _ (l : 1 ≤ c.left) (h : c.rec < 4096) (g : c.at < length s) (r : Read Field) (e : field_rec (room_of c.seen) s c.at ≡ field_at s r) where
    -- no field is read
    pub visit_fault : (n : Fault) → r ≡ Err n → visit_in c.left c s ≡ none
    unfolding visit_at
    visit_fault n d = some_left l ∙ rw (lt-leb _ _ h, lt-leb _ _ g, e, d)

    -- one is
    pub visit_got : (w : List ℕ) (f : Field) (here : ℕ) (next : Cursor) → Ahead s w c → r ≡ Ok (f, here) → next ≡ cursor_in w c f here
        → visit_in c.left c s ≡ some (record { field = field_of s f; head_end = here; next = next })
    unfolding visit_at
    visit_got w f here next v d k =
        let a : visit_at c s ≡ some (record { field = field_of s f; head_end = here; next = cursor_after c (field_of s f) s here }) =
        rw (lt-leb _ _ h, lt-leb _ _ g, e, d) in
        let b = cursor_is s w c v f here l h a in
        some_left l ∙ a ∙ rw (k, b)

pub ruleset visit-ways = (visit_none, visit_full, visit_end, visit_fault, visit_got)

-- the lists of the head that was read can be read again
pub visit_head : (s : Bytes) (r : Read Field) (f : Field) (here : ℕ) → r ≡ Ok (f, here) → ReadableField s r → ReadableHead s f
visit_head s r f here d v = subst (ReadableField s) d v
