-- A pass over all fields finds the first import that comes too late.
use Rattle.std.specs.Prelude.{Some, None}
use Rattle.std.specs.Prelude.{if◌then◌else◌}
use Prim.Native.Nat.{ℕ, ◌+◌}
use mathlib.Core.Path.{◌≡◌, refl, ◌∙◌}
use mathlib.Core.Bool.{Bool, true, false}
use mathlib.Core.List.{List, [], ◌∷◌, ◌++◌, map}
use Rattle.definition.specs.Basic.{Answer, ok, refused}
use Rattle.definition.specs.Syntax.{Bytes, Identifier, Space, Field, export_f, own_index, Body}
use Rattle.definition.specs.Token as Token
use Rattle.definition.specs.Read.{field_body}
use Rattle.definition.specs.Spaces.{source_space}
use Rattle.definition.specs.Deinline.{Numbered, source_fields, fields_of, imports_from, import_order}
use Rattle.syntax.specs.Tokens.{id_of}
use Rattle.syntax.specs.declared.Part.{Part}
use Rattle.syntax.specs.TypeUses.{list_of}
use Rattle.syntax.specs.Items.{count_of, source_of}
use Rattle.syntax.specs.declared.Source.{Source}
use Rattle.syntax.specs.declared.Source.TheVariants as S
use Rattle.syntax.specs.Fields.{field_of}
use Rattle.syntax.specs.declared.Field as Code
use Rattle.syntax.specs.declared.Field.TheVariants as F
use Rattle.walk.specs.Walk.{body_in, begin, visit_in, visit_of, fields_here, fields_ahead, fields_in}
use Rattle.walk.specs.declared.Cursor.{Cursor}
use Rattle.walk.specs.declared.Met.{Met}
use Rattle.walk.proofs.Steps.{visit_done, visit_fields}
use Rattle.import_order.specs.Order.{source_standing, standing, is_late, late_after}
use Rattle.import_order.specs.declared.Standing.{Standing}

-- ## One field

-- what the fields of a record make of the rest
unfoldable step : ℕ → Bool → Standing → Numbered Identifier → Answer (Unit {0})
step r late x fs = if is_late late x then refused 11 r else imports_from (late_after late x) fs

-- exports do not count
exports_none : (r n : ℕ) (k : Space) (late : Bool) (es : List Bytes) (fs : List (Field Identifier)) (gs : Numbered Identifier)
    → imports_from late (map (λ x. (r, x)) (map (λ e. export_f e k (own_index n)) es ++ fs) ++ gs) ≡ imports_from late (map (λ x. (r, x)) fs ++ gs)
unfolding imports_from
exports_none r n k late [] fs gs = refl
exports_none r n k late (e ∷ es) fs gs = exports_none r n k late es fs gs

module _ (s : Bytes) (r : ℕ) (next : Space → ℕ) (body : Body Identifier) (late : Bool) (fs : Numbered Identifier) where
  source_step : (i : Part) (n : ℕ) (x : Source) → imports_from late (map (λ f. (r, f)) (source_fields (id_of s i) n (source_of s x) body) ++ fs) ≡ step r late (source_standing x) fs
  unfolding source_fields imports_from step
  source_step i n (S.Own o) = refl
  source_step i n (S.Imported m x) = refl
  source_step i n (S.TableOf w ys) = refl
  source_step i n (S.MemOf w d) = refl

  field_step : (f : Code.Field) → imports_from late (map (λ x. (r, x)) (fields_of next (field_of s f) body) ++ fs) ≡ step r late (standing f) fs
  unfolding fields_of imports_from step
  field_step (F.Type i ps rs) = refl
  field_step (F.Import n i x) = refl
  field_step (F.Item i es x) =
      let k = source_space (source_of s x) in
      exports_none r (next k) k late (list_of Token.string s es) (source_fields (id_of s i) (next k) (source_of s x) body) fs ∙ source_step i (next k) x
  field_step (F.Export n k x) = refl
  field_step (F.Start x) = refl
  field_step (F.Elem i m ys) = refl
  field_step (F.Data i m d) = refl

-- ## The loop

-- no import was too late so far, and the others are ahead
pub record Ordering (s : Bytes) (c : Cursor) (late : Bool) : Type 0 where
  pub same : import_order (fields_in s) ≡ imports_from late (fields_ahead c s)

-- before the first field
pub ordering_begin : (s : Bytes) (c : Cursor) → c ≡ begin → Ordering s c false
unfolding import_order fields_in
ordering_begin s c e = record { same = rw e }

module _ (s : Bytes) (c : Cursor) (late : Bool) (v : Ordering s c late) (m : Met) (told : visit_in c.left c s ≡ visit_of s m) where
  -- no field is left
  pub ordering_done : m.what ≡ None → import_order (fields_in s) ≡ ok tt
  unfolding imports_from
  ordering_done is = v.same ∙ rw (visit_done s c m told is)

  module _ (f : Code.Field) (here : ℕ) (is : m.what ≡ Some (f, here)) (x : Standing) (d : x ≡ standing f) (t : Bool) (e : t ≡ is_late late x) where
    one : import_order (fields_in s) ≡ step c.rec late x (fields_ahead m.next s)
    unfolding fields_here
    one =
        v.same
        ∙ rw (visit_fields s c m told f here is, d)
        (field_step s c.rec (count_of c.seen) (body_in (field_body (field_of s f)) (c.rec + 1) s here) late (fields_ahead m.next s) f)

    -- an import that comes too late
    pub ordering_late : t ≡ true → import_order (fields_in s) ≡ refused 11 c.rec
    unfolding step
    ordering_late y = one ∙ rw (← e, y)

    -- any other field
    pub ordering_again : (u : Bool) → t ≡ false → u ≡ late_after late x → Ordering s m.next u
    unfolding step
    ordering_again u y z = record { same = one ∙ rw (← e, y, z) }
