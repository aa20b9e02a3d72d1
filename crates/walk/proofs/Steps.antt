-- What a visit tells a caller. `told` is the visit's promise, and `is` is what a match on the answer gives.
use Rattle.std.specs.Prelude.{Some, None}
use Rattle.std.specs.Prelude.{if◌then◌else◌}
use mathlib.Core.Path.{◌≡◌, refl, ap, sym, ◌∙◌, subst}
use Prim.Native.Nat.{ℕ, zero, suc, ◌+◌, ◌-◌, ◌≤◌, ◌<◌}
use mathlib.Core.Bool.{Bool, true, false, not, ◌&&◌, ◌||◌, false≢true}
use mathlib.Core.List.{List, [], ◌∷◌, ◌++◌}
use mathlib.Core.Option.{Option, none, some}
use lib.Dec.{leb}
use lib.ListN.{length, take, drop}
use lib.Seq.{drop-drop}
use borrow.Author.Tests.{leb-false, lt-leb}
use native.Mathlib.Omega.{arith}
use Rattle.definition.specs.Syntax.{Bytes, Identifier, FieldRec, Instr, opens, elses, ends, indirect, plain, Body}
use Rattle.definition.specs.Instructions.{Inside}
use Rattle.definition.specs.Reader.{Step, got, fault}
use Rattle.definition.specs.Records.{field_rec}
use Rattle.definition.specs.Types as Types
use Rattle.definition.specs.Types.{is_short, instr_uses, used_at, body_uses}
use Rattle.definition.specs.Read.{field_body}
use Rattle.definition.specs.Token.{string, param}
use Rattle.token.specs.Known.{Gets}
use Rattle.area.specs.Layout.{DATA_NAMED, MARK, TYPES, end_at, STRICT}
use Rattle.syntax.specs.Tokens.{id_of}
use Rattle.syntax.specs.declared.Part.{Part}
use Rattle.syntax.specs.TypeUses.{list_of, use_of}
use Rattle.syntax.specs.declared.List as Code
use Rattle.syntax.specs.declared.TypeUse as Use
use Rattle.syntax.specs.Items.{room_of}
use Rattle.syntax.specs.declared.Own.TheVariants as O
use Rattle.syntax.specs.declared.Source.TheVariants as S
use Rattle.reread.specs.Known.{ReadableHead}
use Rattle.syntax.specs.Fields.{field_of}
use Rattle.syntax.specs.declared.Field.{Field}
use Rattle.syntax.specs.declared.Field.TheVariants as F
use Rattle.reread.proofs.Gives.{func-few}
use Rattle.next_record.specs.Uses.{may_use, any_use, end_word}
use Rattle.area.specs.Kept.{Kept}
use Rattle.walk.specs.Walk.{on_visit, body_in, bodies, cursor_after, whole_field, on_field, sound, Visited, visit_step, visit_at, visit_in, visit_of, ReadableMet, met_of, fields_here, fields_from, fields_ahead, end_of, end_here, ends_from, Ahead, uses_in}
use Rattle.walk.specs.declared.Cursor.{Cursor}
use Rattle.walk.specs.declared.Met.{Met}
use Rattle.walk.proofs.Cursors.{end_words_lem}
use Rattle.area.proofs.Kept.{kept_less}
use Rattle.area.proofs.Flags.{flag-kept}

-- ## Backwards through a visit

-- what was met: a field that was read, and where the walk goes on after it
pub record Goes (s : Bytes) (c : Cursor) (v : Visited) : Type 0 where
  pub few : c.rec < 4096
  pub inside : c.at < length s
  pub reads : field_rec (room_of c.seen) s c.at ≡ got v.field v.head_end
  pub goes_on : v.next ≡ cursor_after c v.field s v.head_end

pub visited : (s : Bytes) (c : Cursor) (v : Visited) → visit_at c s ≡ some v → Goes s c v
unfolding visit_at
visited s c v e = go (leb 4096 c.rec) refl (leb (length s) c.at) refl (field_rec (room_of c.seen) s c.at) refl e
  where
    go : (t : Bool) → leb 4096 c.rec ≡ t → (u : Bool) → leb (length s) c.at ≡ u → (st : Step (FieldRec Identifier)) → field_rec (room_of c.seen) s c.at ≡ st
        → (if t then none else if u then none else visit_step c s st) ≡ some v → Goes s c v
    go true d u g st f e = let z : ◌≡◌ {A = ℕ} 0 1 = cc in absurd (omega arith)
    go false d true g st f e = let z : ◌≡◌ {A = ℕ} 0 1 = cc in absurd (omega arith)
    go false d false g (fault n) f e = let z : ◌≡◌ {A = ℕ} 0 1 = cc in absurd (omega arith)
    go false d false g (got x here) f e =
        let j : ◌≡◌ {A = Visited} (record { field = x; head_end = here; next = cursor_after c x s here }) v = cc in
        record {
          few = leb-false _ _ d;
          inside = leb-false _ _ g;
          reads = f ∙ ap (λ (z : Visited). got z.field z.head_end) j;
          goes_on = ap (λ (z : Visited). z.next) (sym j) ∙ ap (λ (z : Visited). cursor_after c z.field s z.head_end) j;
        }

-- one of those that may still be visited
pub some_visit : (s : Bytes) (c : Cursor) (v : Visited) → visit_in c.left c s ≡ some v → (1 ≤ c.left) × (visit_at c s ≡ some v)
some_visit s c v e = go c.left e
  where
    go : (left : ℕ) → visit_in left c s ≡ some v → (1 ≤ left) × (visit_at c s ≡ some v)
    go zero e = let z : ◌≡◌ {A = ℕ} 0 1 = cc in absurd (omega arith)
    go (suc n) e = (omega arith, e)

-- ## Nothing ahead is a fault

and_true : (t u : Bool) → (t && u) ≡ true → (t ≡ true) × (u ≡ true)
and_true true u e = (refl, e)
and_true false u e = (e, absurd (false≢true e))

-- where a field was met: its body, and what is ahead of the next cursor
pub sound_met : (s : Bytes) (c : Cursor) (v : Visited) → visit_at c s ≡ some v → (n : ℕ)
    → sound (suc n) c s ≡ (whole_field (field_body v.field) (c.rec + 1) s v.head_end && sound n v.next s)
unfolding sound
sound_met s c v e n =
    let g = visited s c v e in
    let d = g.reads in
    let k = g.goes_on in
    rw (lt-leb _ _ g.few, lt-leb _ _ g.inside, d, k)

-- a field is read at the cursor
pub visit_sound : (s w : List ℕ) (c : Cursor) → Ahead s w c → 1 ≤ c.left → c.rec < 4096 → c.at < length s → Gets (field_rec (room_of c.seen) s c.at)
unfolding sound
visit_sound s w c v l few inside = go c.left l v.sound
  where
    next : (b : Step (FieldRec Identifier)) → field_rec (room_of c.seen) s c.at ≡ b → (more : FieldRec Identifier → ℕ → Bool) → on_field b more false ≡ true → Gets (field_rec (room_of c.seen) s c.at)
    next (got f here) e more d = record { value = f; next = here; is = e }
    next (fault n) e more d = absurd (false≢true d)

    go : (left : ℕ) → 1 ≤ left → sound left c s ≡ true → Gets (field_rec (room_of c.seen) s c.at)
    go zero h e = absurd (omega arith)
    go (suc n) h e = next (field_rec (room_of c.seen) s c.at) refl _ (rw (lt-leb _ _ few, lt-leb _ _ inside) at e)

-- ## Bodies that use no type

-- a word without the mark
unmarked : (r : ℕ) (u : Bool) → leb MARK (end_word r u) ≡ false → u ≡ false
unfolding end_word
unmarked r true e = let l = leb-false MARK (r + MARK) e in absurd (omega arith)
unmarked r false e = refl

no_use : (x : Instr Identifier) → may_use x ≡ false → instr_uses x ≡ []
unfolding may_use instr_uses
no_use (opens op l t) e = go (is_short t) e
  where
    go : (b : Bool) → not b ≡ false → (if b then [] else Types.use_of t) ≡ []
    go true e = refl
    go false e = let z : ◌≡◌ {A = ℕ} 0 1 = cc in absurd (omega arith)
no_use (elses l) e = refl
no_use (ends l) e = refl
no_use (indirect x t) e = let z : ◌≡◌ {A = ℕ} 0 1 = cc in absurd (omega arith)
no_use (plain p) e = refl

unused : (xs : Body Identifier) → any_use xs ≡ false → body_uses xs ≡ []
unfolding any_use body_uses
unused [] e = refl
unused ((r, x) ∷ xs) e = go (may_use x) refl e (unused xs)
  where
    go : (b : Bool) → may_use x ≡ b → b || any_use xs ≡ false → (any_use xs ≡ false → body_uses xs ≡ []) → used_at r (instr_uses x) ++ body_uses xs ≡ []
    go true d e ih = let z : ◌≡◌ {A = ℕ} 0 1 = cc in absurd (omega arith)
    go false d e ih = rw (no_use x d) (ih e)

-- ## What a caller has

module _ (s : Bytes) (c : Cursor) (r : Met) (told : visit_in c.left c s ≡ visit_of s r) where
  -- the walk is over
  pub visit_done : r.what ≡ None → fields_ahead c s ≡ []
  unfolding fields_ahead fields_from
  visit_done is = go c.left (told ∙ ap (λ z. met_of s z r.next) is)
    where
      go : (left : ℕ) → visit_in left c s ≡ none → fields_from left c s ≡ []
      go zero e = refl
      go (suc n) e = ap (λ z. on_visit z (λ v. fields_here c s v ++ fields_from n v.next s) []) e

  module _ (f : Field) (here : ℕ) (is : r.what ≡ Some (f, here)) where
    at_met : (1 ≤ c.left) × (visit_at c s ≡ some (record { field = field_of s f; head_end = here; next = r.next }))
    at_met = some_visit s c (record { field = field_of s f; head_end = here; next = r.next }) (told ∙ ap (λ z. met_of s z r.next) is)

    goes : Goes s c (record { field = field_of s f; head_end = here; next = r.next })
    goes = visited s c _ at_met.1

    left_less : r.next.left ≡ c.left - 1
    unfolding cursor_after
    left_less = ap (λ (z : Cursor). z.left) goes.goes_on

    -- fewer may still be visited: the loop's measure
    pub visit_less : r.next.left < c.left
    visit_less = omega (arith, left_less, at_met.0)

    -- the field was read at the cursor
    pub visit_read : field_rec (room_of c.seen) s c.at ≡ got (field_of s f) here
    visit_read = goes.reads

    -- its record has a number below 4,096
    pub visit_few : c.rec < 4096
    visit_few = goes.few

    -- an own function has at most 64 parameters and 64 locals
    pub visit_func_few : (i : Part) (es : Code.List) (t : Use.TypeUse) (ls : Code.List) → f ≡ F.Item i es (S.Own (O.Func t ls))
        → (length (use_of s t).params ≤ 64) × (length (list_of param s ls) ≤ 64)
    visit_func_few i es t ls e =
        func-few (room_of c.seen) s c.at here (id_of s i) (list_of string s es) (use_of s t) (list_of param s ls) (visit_read ∙ ap (λ z. got (field_of s z) here) e)

    -- where the walk goes on, in the model
    pub visit_next : r.next ≡ cursor_after c (field_of s f) s here
    visit_next = goes.goes_on

    -- one record's fields, and the others
    pub visit_fields : fields_ahead c s ≡ fields_here c s (record { field = field_of s f; head_end = here; next = r.next }) ++ fields_ahead r.next s
    unfolding fields_ahead fields_from
    visit_fields = go c.left refl at_met.0
      where
        go : (left : ℕ) → c.left ≡ left → 1 ≤ left
            → fields_from left c s ≡ fields_here c s (record { field = field_of s f; head_end = here; next = r.next }) ++ fields_from r.next.left r.next s
        go zero l h = absurd (omega arith)
        go (suc n) l h =
            let m : r.next.left ≡ n = omega (arith, left_less) in
            ap (λ z. on_visit z (λ v. fields_here c s v ++ fields_from n v.next s) []) at_met.1 ∙ rw m

    -- the ends of bodies that are still ahead
    abbrev body : Body Identifier
    body = body_in (field_body (field_of s f)) (c.rec + 1) s here

    ends_are : ends_from c.left c s ≡ end_of (field_body (field_of s f)) r.next body ++ ends_from r.next.left r.next s
    unfolding ends_from end_here
    ends_are = go c.left refl at_met.0
      where
        go : (left : ℕ) → c.left ≡ left → 1 ≤ left
            → ends_from left c s ≡ end_of (field_body (field_of s f)) r.next body ++ ends_from r.next.left r.next s
        go zero l h = absurd (omega arith)
        go (suc n) l h =
            let m : r.next.left ≡ n = omega (arith, left_less) in
            ap (λ z. on_visit z (λ v. end_here c s v ++ ends_from n v.next s) []) at_met.1 ∙ rw m

    -- a body that is not marked uses no type
    pub visit_unused : (w : List ℕ) → Ahead s w c → uses_in w c.own ≡ false → body_uses (body_in (field_body (field_of s f)) (c.rec + 1) s here) ≡ []
    unfolding uses_in body_uses
    visit_unused w v e = go (field_body (field_of s f)) refl ends_are
      where
        go : (b : Option Inside) → field_body (field_of s f) ≡ b → ends_from c.left c s ≡ end_of b r.next body ++ ends_from r.next.left r.next s
            → body_uses body ≡ []
        go none d g = rw d
        go (some k) d g =
            let x = end_words_lem w c.own r.next.at (end_word r.next.rec (any_use body)) (ends_from r.next.left r.next s ++ v.ends.rest)
            (v.ends.is ∙ ap (λ z. z ++ v.ends.rest) g) in
            unused body (unmarked r.next.rec (any_use body) (ap (leb MARK) (sym x.1) ∙ e))

    -- its body, and what is ahead of the next cursor
    sound-parts : (w : List ℕ) → Ahead s w c → (whole_field (field_body (field_of s f)) (c.rec + 1) s here ≡ true) × (sound r.next.left r.next s ≡ true)
    sound-parts w v = go c.left refl at_met.0 v.sound
      where
        go : (left : ℕ) → c.left ≡ left → 1 ≤ left → sound left c s ≡ true
            → (whole_field (field_body (field_of s f)) (c.rec + 1) s here ≡ true) × (sound r.next.left r.next s ≡ true)
        go zero l h e = absurd (omega arith)
        go (suc n) l h e =
            let m : r.next.left ≡ n = omega (arith, left_less) in
            let a = and_true _ (sound n r.next s) (sym (sound_met s c _ at_met.1 n) ∙ e) in
            (a.0, ap (λ k. sound k r.next s) m ∙ a.1)

    -- the body of a field that has one reads to its end
    pub visit_whole : (w : List ℕ) → Ahead s w c → whole_field (field_body (field_of s f)) (c.rec + 1) s here ≡ true
    visit_whole w v = (sound-parts w v).0

    own_is : r.next.own ≡ c.own + bodies (field_body (field_of s f))
    unfolding cursor_after
    own_is = ap (λ (z : Cursor). z.own) goes.goes_on

    -- the ends of bodies are in the work area for the rest of the walk too
    pub visit_ahead : (w : List ℕ) → Ahead s w c → Ahead s w r.next
    visit_ahead w v = go (field_body (field_of s f)) ends_are own_is
      where
        go : (b : Option Inside) → ends_from c.left c s ≡ end_of b r.next body ++ ends_from r.next.left r.next s → r.next.own ≡ c.own + bodies b
            → Ahead s w r.next
        go none e o =
            let same : end_at r.next.own ≡ end_at c.own = omega arith in
            record {
              ends = record { rest = v.ends.rest; is = ap (λ n. drop n (take STRICT w)) same ∙ v.ends.is ∙ ap (λ z. z ++ v.ends.rest) e };
              few = omega (arith, o, left_less, at_met.0, v.few);
              sound = (sound-parts w v).1;
              named = v.named;
            }
        go (some k) e o =
            let two : end_at r.next.own ≡ end_at c.own + 2 = omega arith in
            record {
              ends = record {
                rest = v.ends.rest;
                is = ap (λ n. drop n (take STRICT w)) two ∙ sym (drop-drop 2 (end_at c.own) (take STRICT w)) ∙ ap (drop 2) (v.ends.is ∙ ap (λ z. z ++ v.ends.rest) e);
              };
              few = omega (arith, o, left_less, at_met.0, v.few);
              sound = (sound-parts w v).1;
              named = v.named;
            }

-- the lists of a function's head that was met can be read again
pub visit_readable : (s : Bytes) (r : Met) (f : Field) (here : ℕ) → r.what ≡ Some (f, here) → ReadableMet s r.what → ReadableHead s f
visit_readable s r f here is v = subst (ReadableMet s) is v

-- ## The work area

-- what is written beyond the ends of bodies leaves them, and what is said of data segments
pub ahead-below : (s : Bytes) (w w' : List ℕ) (c : Cursor) → Kept STRICT w w' → Ahead s w c → Ahead s w' c
ahead-below s w w' c k v = let e = k.low in record {
  ends = record { rest = v.ends.rest; is = rw e v.ends.is };
  few = v.few;
  sound = v.sound;
  named = flag-kept DATA_NAMED k (omega arith) ∙ v.named;
}

pub ahead-kept : (s : Bytes) (w w' : List ℕ) (c : Cursor) → Kept TYPES w w' → Ahead s w c → Ahead s w' c
ahead-kept s w w' c k v = ahead-below s w w' c (kept_less STRICT TYPES (omega arith) k) v
