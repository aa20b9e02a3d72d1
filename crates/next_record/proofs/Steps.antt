-- The small steps of the code: depths, bytes.
use Rattle.std.specs.Prelude.{if◌then◌else◌, Result, Ok, Err, IsErrAnd}
use Rattle.std.specs.Result.{IsErr, MatchResult}
use native.Mathlib.Omega.{arith}
use mathlib.Core.Path.{◌≡◌, refl, ap, ◌∙◌}
use Prim.Native.Nat.{ℕ}
use mathlib.Core.Bool.{Bool, true, false}
use mathlib.Core.List.{List}
use lib.ListN.{get_or}
use Rattle.definition.specs.Read.{begins_in}
use Rattle.syntax.specs.declared.Part.{Part}
use Rattle.syntax.specs.declared.List as Records
use Rattle.syntax.specs.declared.TypeUse.{TypeUse}
use Rattle.syntax.specs.declared.Own.{Own}
use Rattle.syntax.specs.declared.Own.TheVariants as O
use Rattle.syntax.specs.declared.Source.{Source}
use Rattle.syntax.specs.declared.Source.TheVariants as S
use Rattle.syntax.specs.declared.Field.{Field}
use Rattle.syntax.specs.declared.Field.TheVariants as F
use Rattle.next_record.specs.Places.{body_of, record_past}
use Rattle.next_record.specs.Answers.{own_depth, source_depth, field_depth, on_past}
use Rattle.syntax.specs.Marks.{no_marks}
use Rattle.syntax.specs.declared.Place.{Place}
use Rattle.syntax.specs.declared.Fault.{Fault}
use Rattle.next_record.specs.declared.record.FaultAt.{FaultAt}

-- ## Depths

pub field-deep : (n : ℕ) (f v : Field) → f ≡ v → n ≡ field_depth v → n ≡ field_depth f
field-deep n f v e d = rw e d

pub source-deep : (n : ℕ) (x v : Source) → x ≡ v → n ≡ source_depth v → n ≡ source_depth x
source-deep n x v e d = rw e d

pub own-deep : (n : ℕ) (o v : Own) → o ≡ v → n ≡ own_depth v → n ≡ own_depth o
own-deep n o v e d = rw e d

-- no other begins a body
pub own_flat : (o : Own) → ((t : TypeUse) (ls : Records.List) → o ≡ O.Func t ls → ⊥) → ◌≡◌ {A = ℕ} 0 (own_depth o)
own_flat (O.Func t ls) h = absurd (h t ls refl)
own_flat (O.Table t) h = refl
own_flat (O.Mem l) h = refl
own_flat (O.Global t c) h = refl

pub source_flat : (x : Source) → ((o : Own) → x ≡ S.Own o → ⊥) → ◌≡◌ {A = ℕ} 0 (source_depth x)
source_flat (S.Own o) h = absurd (h o refl)
source_flat (S.Imported n x) h = refl
source_flat (S.TableOf w xs) h = refl
source_flat (S.MemOf w d) h = refl

pub field_flat : (f : Field) → ((i : Part) (es : Records.List) (x : Source) → f ≡ F.Item i es x → ⊥) → ◌≡◌ {A = ℕ} 0 (field_depth f)
field_flat (F.Type i ps rs) h = refl
field_flat (F.Import n i x) h = refl
field_flat (F.Item i es x) h = absurd (h i es x refl)
field_flat (F.Export n k x) h = refl
field_flat (F.Start x) h = refl
field_flat (F.Elem i m xs) h = refl
field_flat (F.Data i m d) h = refl

-- ## What `map_err` was given

pub mapped_ok : {A E : Type 0} (D : Type 0) {q : Result A E} {v : A} → MatchResult q (λ x. ◌≡◌ {A = Result A D} (Ok v) (Ok x)) (λ e. ⊥) → q ≡ Ok v
mapped_ok D {q = Ok x} m = cc
mapped_ok D {q = Err e} m = absurd m

pub mapped_err : {A E D G : Type 0} (q : Result A E) (d : D) (Q : E → Type 0) → MatchResult q (λ x. ◌≡◌ {A = Result A D} (Err d) (Ok x)) Q → ((e : E) → q ≡ Err e → Q e → G) → G
mapped_err (Ok x) d Q m k = let z : ◌≡◌ {A = ℕ} 0 1 = cc in absurd (omega arith)
mapped_err (Err e) d Q m k = k e refl m

-- ## A fault that is handed on

pub handed_as : {A : Type 0} (r : Result A (FaultAt Fault)) (e q : FaultAt Fault) → IsErr r → IsErrAnd r (λ z. z ≡ e) → e ≡ q → r ≡ Err q
handed_as (Ok x) e q i h g = absurd h
handed_as (Err z) e q i h g = ap Err (h ∙ g)

-- ## What was read

pub on_is : {A : Type 0} (p q : Place) (next d : ℕ) (what : A) → q ≡ record_past p next d → ◌≡◌ {A = Result (A × Place) (FaultAt Fault)} (Ok (what, q)) (on_past p next d what)
unfolding on_past
on_is p q next d what e = rw e

-- ## One record too many

pub may_begin : (s : List ℕ) (at b d : ℕ) (t : Bool) → b ≡ get_or s at 0 → t ≡ begins_in b (body_of d no_marks) → t ≡ true → ◌≡◌ {A = ℕ} 7 (if begins_in (get_or s at 0) (body_of d no_marks) then 7 else 4)
may_begin s at b d t e f g = rw (← e, ← f, g)

pub may_not_begin : (s : List ℕ) (at b d : ℕ) (t : Bool) → b ≡ get_or s at 0 → t ≡ begins_in b (body_of d no_marks) → t ≡ false → ◌≡◌ {A = ℕ} 4 (if begins_in (get_or s at 0) (body_of d no_marks) then 7 else 4)
may_not_begin s at b d t e f g = rw (← e, ← f, g)
