-- One record at the running place: what each way out of its readers comes to.
use Rattle.std.specs.Prelude.{Result, Err}
use Rattle.syntax.specs.Refusals.{number}
use Rattle.syntax.specs.declared.Fault.{Fault}
use Rattle.next_record.specs.declared.record.FaultAt.{FaultAt}
use Rattle.next_record.proofs.Steps.{handed_as}
use mathlib.Core.Path.{◌≡◌, refl, ap, sym, ◌∙◌}
use Prim.Native.Nat.{ℕ, zero, suc, ◌-◌, ◌≤◌, ◌<◌}
use mathlib.Core.Bool.{Bool, true, false, not, false≢true}
use mathlib.Core.List.{[], ◌∷◌}
use mathlib.Core.Option.{none, some}
use lib.Dec.{leb}
use borrow.Author.Tests.{le-leb, ne_eqb}
use native.Mathlib.Omega.{arith}
use Rattle.definition.specs.Basic.{ok, between, is_some}
use Rattle.definition.specs.Syntax.{Bytes, field}
use Rattle.definition.specs.Reader.{got, fault, chooses}
use Rattle.definition.specs.Instructions.{form_of, is_due, body_begins}
use Rattle.definition.specs.Records.{Room, field_recs, field_rec, field_begins}
use Rattle.definition.specs.Read.{field_body, source_body, own_body, begins_in}
use Rattle.laws.proofs.Exits.{between-low}
use Rattle.laws.proofs.Table.{everywhere}
use Rattle.syntax.specs.declared.Own.TheVariants as O
use Rattle.syntax.specs.declared.Source.TheVariants as S
use Rattle.syntax.specs.Fields.{field_of}
use Rattle.syntax.specs.declared.Field.{Field}
use Rattle.syntax.specs.declared.Field.TheVariants as F
use Rattle.syntax.specs.Instructions.{form_is}
use Rattle.syntax.specs.Marks.{no_marks, inside_of}
use Rattle.syntax.specs.declared.Marks.{Marks}
use Rattle.syntax.specs.declared.Form.{Form}
use Rattle.syntax.specs.declared.Form.TheVariants as FM
use Rattle.next_record.specs.Places.{body_of, depth_of, record_past, place_after, field_record_at}
use Rattle.next_record.specs.Answers.{field_depth, outside_answer, refused_here}
use Rattle.syntax.specs.declared.Place.{Place}

-- ## Depths

pub outside : (d : ℕ) (m : Marks) → d < 1 → body_of d m ≡ none
outside zero m h = refl
outside (suc k) m h = absurd (omega arith)

pub inside : (d : ℕ) (m : Marks) → 1 ≤ d → body_of d m ≡ some (inside_of (d - 1) m)
inside zero m h = absurd (omega arith)
inside (suc k) m h = let e : suc k - 1 ≡ k = omega arith in rw e

field-depth : (s : Bytes) (f : Field) → field_depth f ≡ depth_of (field_body (field_of s f))
unfolding field_body source_body own_body
field-depth s (F.Type i ps rs) = refl
field-depth s (F.Import n i x) = refl
field-depth s (F.Item i es (S.Own (O.Func t ls))) = refl
field-depth s (F.Item i es (S.Own (O.Table t))) = refl
field-depth s (F.Item i es (S.Own (O.Mem l))) = refl
field-depth s (F.Item i es (S.Own (O.Global t c))) = refl
field-depth s (F.Item i es (S.Imported n x)) = refl
field-depth s (F.Item i es (S.TableOf w xs)) = refl
field-depth s (F.Item i es (S.MemOf w d)) = refl
field-depth s (F.Export n k x) = refl
field-depth s (F.Start x) = refl
field-depth s (F.Elem i m xs) = refl
field-depth s (F.Data i m d) = refl

-- ## Which bytes may begin a record

abbrev alike : Bool → Bool → Bool
alike true b = b
alike false b = not b

alike_same : (a b : Bool) → alike a b ≡ true → a ≡ b
alike_same true true e = refl
alike_same true false e = absurd (false≢true e)
alike_same false true e = absurd (false≢true e)
alike_same false false e = refl

-- the bytes of the definition's table as the code tests them: compared at every byte, by computing
field-bytes : (b : ℕ) → b < 256 → between 0x01 0x0A b ≡ field_begins b
unfolding between field_begins field_recs chooses
field-bytes b h = alike_same _ _ (everywhere (λ k. alike (between 0x01 0x0A k) (field_begins k)) 256 tt b h)

pub begins-low : (b d : ℕ) → b < 256 → d < 1 → b < 1 → false ≡ begins_in b (body_of d no_marks)
begins-low b d f h l = rw (outside d no_marks h) (sym (between-low 1 10 b l) ∙ field-bytes b f)

pub begins-field : (b d : ℕ) → b < 256 → d < 1 → 1 ≤ b → leb b 10 ≡ begins_in b (body_of d no_marks)
begins-field b d f h l = rw (outside d no_marks h) (go (field-bytes b f))
  where
    go : between 0x01 0x0A b ≡ field_begins b → leb b 10 ≡ field_begins b
    go e = unfold between in rw (le-leb 1 b l) at e

pub begins-folded : (b d : ℕ) → 1 ≤ d → b ≡ 0xF0 → true ≡ begins_in b (body_of d no_marks)
unfolding body_begins
begins-folded b d h e = rw (inside d no_marks h, e)

pub begins_end : (b d : ℕ) → 1 ≤ d → b ≡ 0xFF → true ≡ begins_in b (body_of d no_marks)
unfolding body_begins inside_of is_due
begins_end b d h e = rw (inside d no_marks h, e)

some_form : (b d : ℕ) (r : Form) → 1 ≤ d → (b ≡ 0xF0 → ⊥) → (b ≡ 0xFF → ⊥) → form_of b ≡ form_is r → is_some (form_is r) ≡ begins_in b (body_of d no_marks)
unfolding body_begins inside_of is_due
some_form b d r h m n e = rw (inside d no_marks h, ne_eqb b 0xF0 m, ne_eqb b 0xFF n, e)

pub begins_not : (b d : ℕ) (r : Form) → 1 ≤ d → (b ≡ 0xF0 → ⊥) → (b ≡ 0xFF → ⊥) → form_of b ≡ form_is r → r ≡ FM.NoOpcode → false ≡ begins_in b (body_of d no_marks)
unfolding is_some
begins_not b d r h m n e g = ap (λ x. is_some (form_is x)) (sym g) ∙ some_form b d r h m n e

-- every other form is one
is_form : (r : Form) → (r ≡ FM.NoOpcode → ⊥) → true ≡ is_some (form_is r)
unfolding is_some
is_form FM.NoOpcode h = absurd (h refl)
is_form FM.Opening h = refl
is_form FM.Elsing h = refl
is_form FM.Ending h = refl
is_form FM.Calling h = refl
is_form (FM.Operands w) h = refl

pub begins_form : (b d : ℕ) (r : Form) → 1 ≤ d → (b ≡ 0xF0 → ⊥) → (b ≡ 0xFF → ⊥) → form_of b ≡ form_is r → (r ≡ FM.NoOpcode → ⊥)
    → true ≡ begins_in b (body_of d no_marks)
begins_form b d r h m n e t = is_form r t ∙ some_form b d r h m n e

-- ## The ways out

module _ (free : Room) (p : Place) (s : Bytes) where
  pub record_field : (f : Field) (next d : ℕ) (q : Place) → field_rec free s p.at ≡ got (field_of s f) next → q ≡ record_past p next d → d ≡ field_depth f → field_record_at free p s ≡ (ok (field (field_of s f)), q)
  unfolding field_record_at place_after
  record_field f next d q g a l = rw (a, g, l, field-depth s f)

  pub record_no_field : (n : Fault) (x : Result (Field × Place) (FaultAt Fault)) → field_rec free s p.at ≡ fault (number n) → x ≡ Err (refused_here p n) → field_record_at free p s ≡ outside_answer s x
  unfolding field_record_at
  record_no_field n x g a = rw (g, a)

pub ruleset record-ways = (handed_as, record_field, record_no_field)
