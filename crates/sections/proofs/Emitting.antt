-- The entries of one section: of an entry, of a field, of all fields.
use Rattle.std.specs.Prelude.{Option, Ok, Err, Some, None}
use Rattle.syntax.specs.Refusals.{Resolved}
use Prim.Native.Nat.{ℕ, ◌+◌, ◌*◌, ◌^◌, ◌<◌}
use mathlib.Core.Path.{◌≡◌, refl, sym, ◌∙◌, ap}
use mathlib.Core.List.{List, [], ◌++◌}
use lib.ListN.{length}
use native.Mathlib.Omega.{arith}
use Rattle.definition.specs.Basic.{Answer, ok, fails, concat_map}
use Rattle.definition.specs.Syntax.{Bytes}
use Rattle.definition.specs.Types.{Uses}
use Rattle.definition.specs.Binary.{in_section, joined}
use Rattle.syntax.specs.Refusals.{refused_by}
use Rattle.syntax.specs.declared.Refusal.{Refusal}
use Rattle.emit.proofs.Laws.{put_then, put_is, put-skip}
use Rattle.area.specs.Layout.{LOCALS}
use Rattle.area.specs.Kept.{Kept}
use Rattle.area.proofs.Kept.{kept_same, kept_then}
use Rattle.type_table.specs.Table.{types_in, Recalled}
use Rattle.scope.specs.Scope.{scope_in}
use Rattle.scope.proofs.Frames.{types-kept, scope_kept, recalled-scope}
use Rattle.import_export.specs.declared.export.Ends.{Ends}
use Rattle.deinline.specs.Entry.{Entries, section_no, answer_of, uses_of, tagged, both, entry_in, first_of, second_of, third_of, item_in, three, three_in}
use Rattle.syntax.specs.declared.Seen.{Seen}
use Rattle.syntax.specs.declared.Source.{Source}
use Rattle.syntax.specs.declared.Field.{Field}
use Rattle.syntax.specs.declared.Entry.{Entry}
use Rattle.kept.specs.Content.{Fine, bytes_in}
use Rattle.sections.specs.Write.{Writes, Emittable, EmittableThree}
use Rattle.entries.specs.Listed.{Listed, Answers}
use Rattle.kept.specs.Emit.{EmitsEntry}
use Rattle.laws.proofs.TypeSection.{section-append}
use Rattle.kept.proofs.Keeping.{section-own, section-other, joined-append}

-- ## Entries of one section

bytes-other : (k j : ℕ) (a : Answer (List Bytes)) → (k ≡ j → ⊥) → [] ≡ bytes_in k (tagged j a)
unfolding bytes_in tagged joined concat_map
bytes-other k j (ok bs) e = rw (section-other k j bs e) refl
bytes-other k j (fails q) e = unfold in_section in refl

bytes_same : (k j : ℕ) (a : Answer (List Bytes)) (bs : List Bytes) → j ≡ k → a ≡ ok bs → joined bs ≡ bytes_in k (tagged j a)
unfolding bytes_in tagged
bytes_same k j a bs d e = rw (d, e, section-own k bs) refl

module _ (s w : List ℕ) (k r j : ℕ) (e : Entry) (sec : j ≡ section_no e) (old : Bytes) (at : ℕ) where
  -- an entry of another section
  pub entry_other : (j ≡ k → ⊥) → length old * 1 < 2 ^ 63 → Writes (bytes_in k (entry_in (scope_in s w) s r e)) old at at old w w
  unfolding entry_in
  entry_other h g = record {
    put = put-skip g (bytes-other k (section_no e) (answer_of (scope_in s w) s r e) (λ d. h (sec ∙ sym d)));
    area = kept_same LOCALS w;
  }

  module _ (q : Resolved Ends) (w' new : List ℕ) (told : EmitsEntry s w r e old at q w' new) (same : j ≡ k) where
    pub entry-put : (x : Ends) → q ≡ Ok x → Writes (bytes_in k (entry_in (scope_in s w) s r e)) old at x.to new w w'
    unfolding entry_in Answers
    entry-put x d =
        let t : EmitsEntry s w r e old at (Ok x) w' new = rw d at told in
        let a : Listed (answer_of (scope_in s w) s r e) old at x.to x.count new = t.answers in
        record { put = put_is a.put (bytes_same k (section_no e) (answer_of (scope_in s w) s r e) a.entries (sym sec ∙ same) a.is); area = t.area }

    -- an entry that is not refused
    pub entry-refused : (p : Refusal) → q ≡ Err p → Emittable s w r e → Writes (bytes_in k (entry_in (scope_in s w) s r e)) old at at new w w'
    unfolding entry_in Answers tagged
    entry-refused p d v =
        let t : EmitsEntry s w r e old at (Err p) w' new = rw d at told in
        let f : Fine (tagged (section_no e) (answer_of (scope_in s w) s r e)) = v.fine in
        let a : answer_of (scope_in s w) s r e ≡ refused_by p = t.answers in
        let g : refused_by p ≡ ok f.entries = sym (ap (tagged (section_no e)) a) ∙ f.is in
        let z : ◌≡◌ {A = ℕ} 0 1 = cc in absurd (omega arith)

-- ## The entries of a field

-- a bind is refused where one of its parts is
pub fine-first : (a b : Answer Entries) → Fine (both a b) → Fine a
unfolding both
fine-first (ok xs) b f = record { entries = xs; is = refl }
fine-first (fails q) b f = let g : fails q ≡ ok f.entries = f.is in let z : ◌≡◌ {A = ℕ} 0 1 = cc in absurd (omega arith)

pub fine-second : (a b : Answer Entries) → Fine (both a b) → Fine b
unfolding both
fine-second (ok xs) (ok ys) f = record { entries = ys; is = refl }
fine-second (ok xs) (fails q) f = let g : fails q ≡ ok f.entries = f.is in let z : ◌≡◌ {A = ℕ} 0 1 = cc in absurd (omega arith)
fine-second (fails q) b f = let g : fails q ≡ ok f.entries = f.is in let z : ◌≡◌ {A = ℕ} 0 1 = cc in absurd (omega arith)

pub bytes-both : (k : ℕ) (a b : Answer Entries) → Fine (both a b) → bytes_in k a ++ bytes_in k b ≡ bytes_in k (both a b)
unfolding both bytes_in
bytes-both k (ok xs) (ok ys) f = rw (section-append k xs ys, joined-append (in_section k xs) (in_section k ys)) refl
bytes-both k (ok xs) (fails q) f = let g : fails q ≡ ok f.entries = f.is in let z : ◌≡◌ {A = ℕ} 0 1 = cc in absurd (omega arith)
bytes-both k (fails q) b f = let g : fails q ≡ ok f.entries = f.is in let z : ◌≡◌ {A = ℕ} 0 1 = cc in absurd (omega arith)

pub scope-same : (s w w' : List ℕ) → Kept LOCALS w w' → scope_in s w' ≡ scope_in s w
scope-same s w w' k = scope_kept s w w' k

pub types_same : (s w w' : List ℕ) → Kept LOCALS w w' → types_in s w' ≡ types_in s w
types_same s w w' k = types-kept s w w' LOCALS k (omega arith)

pub recalled-same : (s w w' : List ℕ) (us : Uses) → Kept LOCALS w w' → Recalled w (types_in s w) us → Recalled w' (types_in s w') us
recalled-same s w w' us k u = recalled-scope s w w' us k u

module _ (s w : List ℕ) (r : ℕ) (e f : Entry) (is : e ≡ f) (v : Emittable s w r f) where
  -- an entry that the code has made
  pub emittable_is : Emittable s w r e
  emittable_is = rw is v

  -- after the one before it
  pub emittable_still : (w₁ bs old : List ℕ) (at a : ℕ) (mid : List ℕ) → Writes bs old at a mid w w₁ → Emittable s w₁ r e
  emittable_still w₁ bs old at a mid p =
      rw is
      (record {
        stream = v.stream;
        room = rw p.area.long v.room;
        below = v.below;
        head = v.head;
        whole = v.whole;
        recalled = recalled-same s w w₁ (uses_of s r f) p.area v.recalled;
        fine = rw (scope-same s w w₁ p.area) v.fine;
      })

-- first the one, then the other
both_ok : (a b : Answer Entries) (xs ys : Entries) → a ≡ ok xs → b ≡ ok ys → both a b ≡ ok (xs ++ ys)
unfolding both
both_ok a b xs ys e h = rw (e, h)

fine-both : (a b : Answer Entries) → Fine a → Fine b → Fine (both a b)
fine-both a b f g = record { entries = f.entries ++ g.entries; is = both_ok a b f.entries g.entries f.is g.is }

module _ (s w : List ℕ) (k r : ℕ) (e : Entry) (w₁ old : List ℕ) (at a : ℕ) (mid : List ℕ) (first : Writes (bytes_in k (entry_in (scope_in s w) s r e)) old at a mid w w₁) (e' : Entry) (is : e ≡ e') (v : Emittable s w r e')
    (b : ℕ) (new w₂ : List ℕ) where
  then_put : (rest : Answer Entries) → Fine rest → Writes (bytes_in k rest) mid a b new w₁ w₂ → Writes (bytes_in k (both (entry_in (scope_in s w) s r e') rest)) old at b new w w₂
  then_put rest f q = record {
    put = put_is (put_then first.put q.put) (rw is (bytes-both k (entry_in (scope_in s w) s r e') rest (fine-both (entry_in (scope_in s w) s r e') rest v.fine f)));
    area = kept_then first.area q.area;
  }

  pub two_put : (f f' : Entry) → f ≡ f' → Emittable s w r f' → Writes (bytes_in k (entry_in (scope_in s w₁) s r f)) mid a b new w₁ w₂
      → Writes (bytes_in k (both (entry_in (scope_in s w) s r e') (entry_in (scope_in s w) s r f'))) old at b new w w₂
  two_put f f' d g q = then_put (entry_in (scope_in s w) s r f') g.fine (rw (scope-same s w w₁ first.area, d) at q)

-- what an item has beside its exports; any other field has nothing more
module _ (s w : List ℕ) (r : ℕ) (f : Field) (seen : Seen) (here : ℕ) (i : Option Source) (in_f : i ≡ item_in f) where
  module _ (x : Source) (is : i ≡ Some x) where
    second_is : (three f seen here).second ≡ second_of x seen
    unfolding three
    second_is = rw (sym in_f ∙ is) refl

    third-is : (three f seen here).third ≡ third_of x here
    unfolding three
    third-is = rw (sym in_f ∙ is) refl

    pub rest-second : Emittable s w r (three f seen here).second → Emittable s w r (second_of x seen)
    rest-second h = rw second_is at h

    pub rest-third : Emittable s w r (three f seen here).third → Emittable s w r (third_of x here)
    rest-third h = rw third-is at h

    pub rest-item : (k : ℕ) (old : List ℕ) (at q : ℕ) (new w' : List ℕ)
        → Writes (bytes_in k (both (entry_in (scope_in s w) s r (second_of x seen)) (entry_in (scope_in s w) s r (third_of x here)))) old at q new w w'
        → Writes (bytes_in k (both (entry_in (scope_in s w) s r (three f seen here).second) (entry_in (scope_in s w) s r (three f seen here).third))) old at q new w w'
    rest-item k old at q new w' h = rw (second_is, third-is) h

  pub rest-none : (k : ℕ) (old : List ℕ) (at : ℕ) → i ≡ None → length old * 1 < 2 ^ 63
      → Writes (bytes_in k (both (entry_in (scope_in s w) s r (three f seen here).second) (entry_in (scope_in s w) s r (three f seen here).third))) old at at old w w
  unfolding three both entry_in tagged answer_of bytes_in in_section joined concat_map
  rest-none k old at is h = record { put = put-skip h (rw (sym in_f ∙ is) refl); area = kept_same LOCALS w }

-- all entries of a field
module _ (s w : List ℕ) (r : ℕ) (f : Field) (seen : Seen) (here : ℕ) (v : EmittableThree s w r (three f seen here)) where
  pub field-first : (e : Entry) → e ≡ first_of f seen → Emittable s w r e
  unfolding three
  field-first e d = rw d v.first

  module _ (w₁ bs old : List ℕ) (at a : ℕ) (mid : List ℕ) (p : Writes bs old at a mid w w₁) where
    pub field-second : Emittable s w₁ r (three f seen here).second
    field-second = emittable_still s w r (three f seen here).second (three f seen here).second refl v.second w₁ bs old at a mid p

    pub field-third : Emittable s w₁ r (three f seen here).third
    field-third = emittable_still s w r (three f seen here).third (three f seen here).third refl v.third w₁ bs old at a mid p

  pub three-put : (k : ℕ) (e : Entry) (w₁ w₂ old : List ℕ) (at a b : ℕ) (mid new : List ℕ) → e ≡ first_of f seen → Writes (bytes_in k (entry_in (scope_in s w) s r e)) old at a mid w w₁
      → Writes (bytes_in k (both (entry_in (scope_in s w₁) s r (three f seen here).second) (entry_in (scope_in s w₁) s r (three f seen here).third))) mid a b new w₁ w₂
      → Writes (bytes_in k (three_in (scope_in s w) s r (three f seen here))) old at b new w w₂
  unfolding three_in three
  three-put k e w₁ w₂ old at a b mid new d p q =
      let second = entry_in (scope_in s w) s r (three f seen here).second in
      let third = entry_in (scope_in s w) s r (three f seen here).third in
      then_put s w k r e w₁ old at a mid p (first_of f seen) d v.first b new w₂ (both second third) (fine-both second third v.second.fine v.third.fine)
      (rw (scope-same s w w₁ p.area) at q)
