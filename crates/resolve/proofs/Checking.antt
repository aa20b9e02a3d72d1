-- Checking one answer after the other.
use Rattle.std.specs.Prelude.{Ok, Err, Some, None, IsErrAnd}
use Rattle.std.specs.Result.{IsErr}
use Rattle.syntax.specs.Refusals.{Resolved, refused_by}
use Rattle.syntax.proofs.Ways.{handed}
use Prim.Native.Nat.{ℕ, ◌*◌, ◌^◌, ◌≤◌, ◌<◌}
use mathlib.Core.Path.{◌≡◌, refl, sym, ◌∙◌}
use mathlib.Core.List.{List, [], ◌++◌, map}
use lib.ListN.{length, get_or}
use Rattle.definition.specs.Basic.{Answer, ok}
use Rattle.definition.specs.Syntax.{Bytes}
use Rattle.definition.specs.Binary.{joined}
use native.Mathlib.Omega.{arith}
use Rattle.syntax.specs.declared.Refusal.{Refusal}
use Rattle.emit.specs.Put.{Put}
use Rattle.area.specs.Layout.{LOCALS, WORDS}
use Rattle.area.specs.Kept.{Kept}
use Rattle.area.proofs.Kept.{kept_then, kept_same}
use Rattle.scope.specs.Scope.{scope_in}
use Rattle.scope.proofs.Frames.{recalled-scope, scope_kept}
use Rattle.syntax.specs.declared.Seen.{Seen}
use Rattle.syntax.specs.declared.Source.{Source}
use Rattle.syntax.specs.declared.Field.{Field}
use Rattle.syntax.specs.declared.Entry.{Entry}
use Rattle.syntax.specs.declared.Entry.TheVariants as E
use Rattle.deinline.specs.Entry.{Entries, tagged, both, uses_of, section_no, answer_of, entry_in, first_of, second_of, third_of, item_in, three, three_in}
use Rattle.entries.specs.Listed.{Listed, Answers}
use Rattle.import_export.specs.declared.export.Ends.{Ends}
use Rattle.kept.specs.Sections.{SECTIONS}
use Rattle.kept.specs.Emit.{EmitsKept}
use Rattle.kept.specs.Parts.{part_in}
use Rattle.kept.specs.Tally.{reached, tallies, tallied, Slots, Tallied, NotTallied, Checks, Ready, ReadyThree, AreaBy, ChecksIn}
use Rattle.kept.specs.declared.tally.Tally.{Tally}
use Rattle.kept.proofs.Tallies.{tallies-append}
use Rattle.kept.proofs.Keeping.{reached-is, keeps-none, keeps-one, keeps_then}
use Rattle.kept.proofs.Emitting.{section-below}

-- ## One answer

-- entries of one section were kept, and its place reached
pub tallied_one : (t : Tally) (k to n : ℕ) (a : Answer (List Bytes)) (es : List Bytes) (old new : Bytes) → k < SECTIONS → Slots t → length old * 1 < 2 ^ 63 → a ≡ ok es
    → Put (part_in old k) (get_or t.sizes k 0) (joined es) to (part_in new k) → n ≡ length es → ((j : ℕ) → j < SECTIONS → (j ≡ k → ⊥) → part_in new j ≡ part_in old j) → length new ≡ length old
    → Tallied (tagged k a) t old (reached t k to n) new
unfolding tagged
tallied_one t k to n a es old new h w f e p d o l =
    record { entries = map (λ b. (k, b)) es; is = rw e refl; tally = reached-is t k to n es h w p.place d; keeps = keeps-one old new t k to es h w f p o l }

pub refused-one : (k : ℕ) (r : Refusal) (a : Answer (List Bytes)) → a ≡ refused_by r → tagged k a ≡ refused_by r
unfolding tagged
refused-one k r a e = rw e refl

-- ## One after the other

module _ (a b : Answer Entries) (t : Tally) (old mid new : Bytes) where
  -- the first was tallied, and then the second
  pub tallied_both : (t₁ t₂ : Tally) → Tallied a t old t₁ mid → Tallied b t₁ mid t₂ new → Tallied (both a b) t old t₂ new
  unfolding both
  tallied_both t₁ t₂ x y =
      let e = x.is in
      let f = y.is in
      record {
        entries = x.entries ++ y.entries;
        is = rw (e, f) refl;
        tally = y.tally ∙ rw x.tally (sym (tallies-append t x.entries y.entries));
        keeps = keeps_then old mid new t t₁ x.entries y.entries x.tally x.keeps y.keeps;
      }

  -- the second was refused
  pub refused-second : (t₁ : Tally) (r : Refusal) → Tallied a t old t₁ mid → b ≡ refused_by r → both a b ≡ refused_by r
  unfolding both
  refused-second t₁ r x e = let f = x.is in rw (f, e) refl

-- the first was refused
pub refused-first : (a b : Answer Entries) (r : Refusal) → a ≡ refused_by r → both a b ≡ refused_by r
unfolding both
refused-first a b r e = rw e refl

-- ## What the code answers

module _ (a : Answer Entries) (t : Tally) (w w' : List ℕ) (old new : Bytes) where
  pub checks_fine : (t' : Tally) → Tallied a t old t' new → Kept LOCALS w w' → ChecksIn a t w old (Ok t') w' new
  unfolding Checks
  checks_fine t' x k = record { says = x; area = k }

  pub checks_not : (r : Refusal) → a ≡ refused_by r → length w' ≡ length w → length new ≡ length old → ChecksIn a t w old (Err r) w' new
  unfolding Checks
  checks_not r e l m = record { says = record { is = e; long = m }; area = l }

  -- and back
  pub was_fine : (t' : Tally) → ChecksIn a t w old (Ok t') w' new → Tallied a t old t' new
  unfolding Checks
  was_fine t' v = v.says

  pub was_not : (r : Refusal) → ChecksIn a t w old (Err r) w' new → NotTallied a r old new
  unfolding Checks
  was_not r v = v.says

  module _ (r : Resolved Tally) (v : ChecksIn a t w old r w' new) where
    pub area-long : length w' ≡ length w
    area-long = go r v.area
      where
        go : (r : Resolved Tally) → AreaBy r w w' → length w' ≡ length w
        go (Ok t') k = k.long
        go (Err q) l = l

    -- the kept bytes are as many as they were
    pub kept-long : length new ≡ length old
    kept-long = go r v.says
      where
        go : (r : Resolved Tally) → Checks a t old r new → length new ≡ length old
        go (Ok t') x = unfold Checks in x.keeps.long
        go (Err q) x = unfold Checks in x.long

  -- a refusal is handed on
  pub check-refused : (r : Resolved Tally) (q : Refusal) → ChecksIn a t w old (Err q) w' new → IsErr r → IsErrAnd r (λ e. e ≡ q) → ChecksIn a t w old r w' new
  check-refused r q v i z = rw (handed r q i z) v

-- ## Ready after what was written

pub ready-kept : (s w w' : List ℕ) (r : ℕ) (e : Entry) → Kept LOCALS w w' → Ready s w r e → Ready s w' r e
ready-kept s w w' r e k h = record { recalled = recalled-scope s w w' (uses_of s r e) k h.recalled; whole = h.whole; head = h.head }

-- ## An entry

-- only nothing has no section
nothing_is : (e : Entry) → section_no e ≡ 0 → e ≡ E.Nothing
nothing_is E.Nothing d = refl
nothing_is (E.Import n x) d = absurd (omega arith)
nothing_is (E.Func t) d = absurd (omega arith)
nothing_is (E.Table t) d = absurd (omega arith)
nothing_is (E.InlineTable w xs) d = absurd (omega arith)
nothing_is (E.Mem l) d = absurd (omega arith)
nothing_is (E.InlineMem w b) d = absurd (omega arith)
nothing_is (E.Global t c) d = absurd (omega arith)
nothing_is (E.Export n k x) d = absurd (omega arith)
nothing_is (E.Exports es k n) d = absurd (omega arith)
nothing_is (E.Start x) d = absurd (omega arith)
nothing_is (E.Elem m xs) d = absurd (omega arith)
nothing_is (E.InlineElem w n xs) d = absurd (omega arith)
nothing_is (E.Code t ls here) d = absurd (omega arith)
nothing_is (E.Data m b) d = absurd (omega arith)
nothing_is (E.InlineData w n b) d = absurd (omega arith)

pub entry-none : (s w : List ℕ) (r : ℕ) (e : Entry) (k : ℕ) (t : Tally) (old : Bytes) → k ≡ section_no e → k ≡ 0 → length old * 1 < 2 ^ 63
    → ChecksIn (entry_in (scope_in s w) s r e) t w old (Ok t) w old
unfolding entry_in tagged answer_of tallies
entry-none s w r e k t old d z l =
    checks_fine _ t w w old old t (record { entries = []; is = rw (nothing_is e (sym d ∙ z)) refl; tally = refl; keeps = keeps-none old t l }) (kept_same LOCALS w)

module _ (s w : List ℕ) (r : ℕ) (e : Entry) (t : Tally) (old : Bytes) (from : ℕ) (w' : List ℕ) (new : Bytes) where
  pub entry-fine : (k : ℕ) (x : Ends) (t' : Tally) → EmitsKept s w r e old from (Ok x) w' new → Slots t → length old * 1 < 2 ^ 63 → k ≡ section_no e → from ≡ get_or t.sizes k 0 → t' ≡ reached t k x.to x.count
      → ChecksIn (entry_in (scope_in s w) s r e) t w old (Ok t') w' new
  unfolding Answers entry_in
  entry-fine k x t' h y f g u z =
      let a : Listed (answer_of (scope_in s w) s r e) (part_in old (section_no e)) (get_or t.sizes (section_no e) 0) x.to x.count (part_in new (section_no e)) = (let b = h.here.answers in rw (u, g) at b) in
      rw (z, g)
      (checks_fine _ t w w' old new _
      (tallied_one t (section_no e) x.to x.count (answer_of (scope_in s w) s r e) a.entries old new (section-below e _ refl) y f a.is a.put a.number h.there h.long)
      h.here.area)

  pub entry_not : (q : Resolved (Unit {0})) (z : Refusal) (t' : Tally) → EmitsKept s w r e old from (Err z) w' new → IsErr q → IsErrAnd q (λ e. e ≡ z)
      → ChecksIn (entry_in (scope_in s w) s r e) t w old (tallied q t') w' new
  unfolding Answers entry_in
  entry_not q z t' h i j = rw (handed q z i j) (checks_not _ t w w' old new z (refused-one (section_no e) z (answer_of (scope_in s w) s r e) h.here.answers) h.here.area h.long)

-- ## One entry after another

module _ (A B : Answer Entries) (t : Tally) (w : List ℕ) (old : Bytes) (w₁ : List ℕ) (mid : Bytes) where
  pub then_by : (t₁ : Tally) (r : Resolved Tally) (w₂ : List ℕ) (new : Bytes) → ChecksIn A t w old (Ok t₁) w₁ mid → ChecksIn B t₁ w₁ mid r w₂ new → ChecksIn (both A B) t w old r w₂ new
  then_by t₁ (Ok b) w₂ new x y =
      checks_fine (both A B) t w w₂ old new b (tallied_both A B t old mid new t₁ b (was_fine A t w w₁ old mid t₁ x) (was_fine B t₁ w₁ w₂ mid new b y)) (kept_then x.area y.area)
  then_by t₁ (Err q) w₂ new x y =
      let z = was_not B t₁ w₁ w₂ mid new q y in
      checks_not (both A B) t w w₂ old new q (refused-second A B t old mid new t₁ q (was_fine A t w w₁ old mid t₁ x) z.is) (y.area ∙ x.area.long)
      (z.long ∙ kept-long A t w w₁ old mid (Ok t₁) x)

  stops_by : (q : Refusal) → ChecksIn A t w old (Err q) w₁ mid → ChecksIn (both A B) t w old (Err q) w₁ mid
  stops_by q x = let z = was_not A t w w₁ old mid q x in checks_not (both A B) t w w₁ old mid q (refused-first A B q z.is) x.area z.long

-- what is ready stays so
pub after-ready : (a : Answer Entries) (t t₁ : Tally) (w : List ℕ) (old : Bytes) (w₁ : List ℕ) (mid : Bytes) (s : List ℕ) (r : ℕ) (f : Entry)
    → ChecksIn a t w old (Ok t₁) w₁ mid → Ready s w r f → Ready s w₁ r f
after-ready a t t₁ w old w₁ mid s r f x h = ready-kept s w w₁ r f x.area h

pub item-ready : (s w : List ℕ) (r : ℕ) (e e' : Entry) → e ≡ e' → Ready s w r e' → Ready s w r e
item-ready s w r e e' d h = rw d h

pub after-item : (a : Answer Entries) (t t₁ : Tally) (w : List ℕ) (old : Bytes) (w₁ : List ℕ) (mid : Bytes) (s : List ℕ) (r : ℕ) (e e' : Entry)
    → e ≡ e' → ChecksIn a t w old (Ok t₁) w₁ mid → Ready s w r e' → Ready s w₁ r e
after-item a t t₁ w old w₁ mid s r e e' g x h = rw g (after-ready a t t₁ w old w₁ mid s r e' x h)

-- the scope after what was written
scope-same : (s w w' : List ℕ) → Kept LOCALS w w' → scope_in s w' ≡ scope_in s w
scope-same s w w' k = scope_kept s w w' k

module _ (s w : List ℕ) (r : ℕ) (t : Tally) (e : Entry) (old : Bytes) (w₁ : List ℕ) (mid : Bytes) (e' : Entry) (is : e ≡ e') where
  -- two entries
  pub two_then : (t₁ : Tally) (f f' : Entry) (z : Resolved Tally) (w₂ : List ℕ) (new : Bytes) → ChecksIn (entry_in (scope_in s w) s r e) t w old (Ok t₁) w₁ mid
      → f ≡ f' → ChecksIn (entry_in (scope_in s w₁) s r f) t₁ w₁ mid z w₂ new → ChecksIn (both (entry_in (scope_in s w) s r e') (entry_in (scope_in s w) s r f')) t w old z w₂ new
  two_then t₁ f f' z w₂ new x g y =
      rw (← is, ← g)
      (then_by (entry_in (scope_in s w) s r e) (entry_in (scope_in s w) s r f) t w old w₁ mid t₁ z w₂ new x
      (let k = scope-same s w w₁ x.area in rw k at y))

  pub two_not : (f : Entry) (z : Resolved (Unit {0})) (q : Refusal) (t' : Tally) → ChecksIn (entry_in (scope_in s w) s r e) t w old (Err q) w₁ mid → IsErr z → IsErrAnd z (λ e. e ≡ q)
      → ChecksIn (both (entry_in (scope_in s w) s r e') (entry_in (scope_in s w) s r f)) t w old (tallied z t') w₁ mid
  two_not f z q t' x i j = rw (handed z q i j, ← is) (stops_by (entry_in (scope_in s w) s r e) (entry_in (scope_in s w) s r f) t w old w₁ mid q x)

-- ## The entries of a field

-- beside its exports an item has two
module _ (s w : List ℕ) (r : ℕ) (f : Field) (seen : Seen) (here : ℕ) where
  module _ (x : Source) (is : Some x ≡ item_in f) where
    second_is : (three f seen here).second ≡ second_of x seen
    unfolding three
    second_is = rw (sym is) refl

    third-is : (three f seen here).third ≡ third_of x here
    unfolding three
    third-is = rw (sym is) refl

    pub rest-second : Ready s w r (three f seen here).second → Ready s w r (second_of x seen)
    rest-second h = rw second_is at h

    pub rest-third : Ready s w r (three f seen here).third → Ready s w r (third_of x here)
    rest-third h = rw third-is at h

    pub rest-item : (t : Tally) (old : Bytes) (q : Resolved Tally) (w' : List ℕ) (new : Bytes)
        → ChecksIn (both (entry_in (scope_in s w) s r (second_of x seen)) (entry_in (scope_in s w) s r (third_of x here))) t w old q w' new
        → ChecksIn (both (entry_in (scope_in s w) s r (three f seen here).second) (entry_in (scope_in s w) s r (three f seen here).third)) t w old q w' new
    rest-item t old q w' new h = rw (second_is, third-is) h

  -- another field has nothing more
  pub rest-none : (t : Tally) (old : Bytes) → None ≡ item_in f → length old * 1 < 2 ^ 63
      → ChecksIn (both (entry_in (scope_in s w) s r (three f seen here).second) (entry_in (scope_in s w) s r (three f seen here).third)) t w old (Ok t) w old
  unfolding three both entry_in tagged answer_of tallies
  rest-none t old is l = checks_fine _ t w w old old t (record { entries = []; is = rw (sym is) refl; tally = refl; keeps = keeps-none old t l }) (kept_same LOCALS w)

module _ (s w : List ℕ) (r : ℕ) (t : Tally) (e : Entry) (old : Bytes) (w₁ : List ℕ) (mid : Bytes) (f : Field) (seen : Seen) (here : ℕ) (told : e ≡ first_of f seen) where
  first-is : three_in (scope_in s w) s r (three f seen here)
      ≡ both (entry_in (scope_in s w) s r e) (both (entry_in (scope_in s w) s r (three f seen here).second) (entry_in (scope_in s w) s r (three f seen here).third))
  unfolding three_in three
  first-is = rw told refl

  -- the first entry and then the others
  pub field_then : (t₁ : Tally) (z : Resolved Tally) (w₂ : List ℕ) (new : Bytes) → ChecksIn (entry_in (scope_in s w) s r e) t w old (Ok t₁) w₁ mid
      → ChecksIn (both (entry_in (scope_in s w₁) s r (three f seen here).second) (entry_in (scope_in s w₁) s r (three f seen here).third)) t₁ w₁ mid z w₂ new
      → ChecksIn (three_in (scope_in s w) s r (three f seen here)) t w old z w₂ new
  field_then t₁ z w₂ new x h =
      rw first-is
      (then_by (entry_in (scope_in s w) s r e) _ t w old w₁ mid t₁ z w₂ new x (let k = scope-same s w w₁ x.area in rw k at h))

  pub field_not : (z : Resolved (Unit {0})) (q : Refusal) (t' : Tally) → ChecksIn (entry_in (scope_in s w) s r e) t w old (Err q) w₁ mid → IsErr z → IsErrAnd z (λ e. e ≡ q)
      → ChecksIn (three_in (scope_in s w) s r (three f seen here)) t w old (tallied z t') w₁ mid
  field_not z q t' x i j = rw (handed z q i j, first-is) (stops_by (entry_in (scope_in s w) s r e) _ t w old w₁ mid q x)

-- each of them is ready: the first, and then the others
module _ (s w : List ℕ) (r : ℕ) (f : Field) (seen : Seen) (here : ℕ) (h : ReadyThree s w r (three f seen here)) where
  pub field-first : (e : Entry) → e ≡ first_of f seen → Ready s w r e
  unfolding three
  field-first e d = rw d h.first

  module _ (a : Answer Entries) (t t₁ : Tally) (old : Bytes) (w₁ : List ℕ) (mid : Bytes) (y : ChecksIn a t w old (Ok t₁) w₁ mid) where
    pub field-second : Ready s w₁ r (three f seen here).second
    field-second = after-ready a t t₁ w old w₁ mid s r (three f seen here).second y h.second

    pub field-third : Ready s w₁ r (three f seen here).third
    field-third = after-ready a t t₁ w old w₁ mid s r (three f seen here).third y h.third

pub long_after : (a : Answer Entries) (t : Tally) (w : List ℕ) (old : Bytes) (r : Resolved Tally) (w' : List ℕ) (new : Bytes) → ChecksIn a t w old r w' new → WORDS ≤ length w → WORDS ≤ length w'
long_after a t w old r w' new v h = rw (area-long a t w w' old new r v) h
