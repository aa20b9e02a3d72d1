-- Laws of the uses of a field.
use Rattle.std.specs.Prelude.{Ok}
use Rattle.syntax.specs.Refusals.{Resolved}
use Prim.Native.Nat.{ℕ, ◌+◌}
use mathlib.Core.Path.{◌≡◌, refl, subst}
use mathlib.Core.Bool.{true}
use mathlib.Core.List.{List, [], ◌∷◌, ◌++◌, map, append-nil}
use mathlib.Core.Option.{Option}
use Rattle.definition.specs.Syntax as Syntax
use Rattle.definition.specs.Syntax.{Bytes, Identifier, Space}
use Rattle.definition.specs.Read.{own_body, source_body, field_body}
use Rattle.definition.specs.Spaces.{source_space}
use Rattle.definition.specs.Deinline.{source_fields, fields_of}
use Rattle.definition.specs.Types as Types
use Rattle.definition.specs.Types.{used_at, body_uses, extern_uses, own_uses, field_uses, uses}
use Rattle.syntax.specs.TypeUses.{use_of}
use Rattle.syntax.specs.declared.TypeUse.{TypeUse}
use Rattle.syntax.specs.Items.{extern_is, own_of, source_of}
use Rattle.syntax.specs.declared.Extern.{Extern}
use Rattle.syntax.specs.declared.Extern.TheVariants as E
use Rattle.syntax.specs.declared.Own.{Own}
use Rattle.syntax.specs.declared.Own.TheVariants as O
use Rattle.syntax.specs.declared.Source.{Source}
use Rattle.syntax.specs.declared.Source.TheVariants as S
use Rattle.syntax.specs.Fields.{field_of}
use Rattle.syntax.specs.declared.Field.{Field}
use Rattle.syntax.specs.declared.Field.TheVariants as F
use Rattle.typeuse.specs.Known.{Readable}
use Rattle.reread.specs.Known.{ReadableExtern, ReadableOwn, ReadableSource, ReadableHead}
use Rattle.walk.specs.Walk.{body_in, whole_field}
use Rattle.instr.specs.Bodies.{body_from}
use Rattle.type_table.specs.Table.{Indexed}
use Rattle.interning.specs.Uses.{Skips, uses_own, uses_source, uses_field, end_after, Handles}
use Rattle.interning.proofs.Handled.{handles_none}

module _ (rec : ℕ) (s : Bytes) (w : List ℕ) (k : ℕ) where
  -- ## What is imported

  module _ (x : Extern) where
    pub extern_func : (t : TypeUse) (r : Resolved ℕ) (w' : List ℕ) → x ≡ E.Func t → Handles rec (rec + 1) s (used_at rec (Types.use_of (use_of s t))) w k r w'
        → Handles rec (rec + 1) s (used_at rec (extern_uses (extern_is s x))) w k r w'
    unfolding extern_uses
    extern_func t r w' d h = rw d h

    module _ (h : Indexed s w k) where
      pub extern_table : (t : _) → x ≡ E.Table t → Handles rec (rec + 1) s (used_at rec (extern_uses (extern_is s x))) w k (Ok k) w
      unfolding extern_uses
      extern_table t d = rw d (handles_none rec (rec + 1) s w k h)

      pub extern_mem : (l : _) → x ≡ E.Mem l → Handles rec (rec + 1) s (used_at rec (extern_uses (extern_is s x))) w k (Ok k) w
      unfolding extern_uses
      extern_mem l d = rw d (handles_none rec (rec + 1) s w k h)

      pub extern_global : (g : _) → x ≡ E.Global g → Handles rec (rec + 1) s (used_at rec (extern_uses (extern_is s x))) w k (Ok k) w
      unfolding extern_uses
      extern_global g d = rw d (handles_none rec (rec + 1) s w k h)

  -- ## The module's own

  module _ (at : ℕ) (o : Own) where
    pub own-func : (t : TypeUse) (ls : _) (r : Resolved ℕ) (w' : List ℕ) → o ≡ O.Func t ls
        → Handles rec (body_from 0 (rec + 1) s at).rec s (used_at rec (Types.use_of (use_of s t)) ++ body_uses (body_from 0 (rec + 1) s at).body) w k r w'
        → Handles rec (end_after (own_body (own_of s o)) rec s at) s (uses_own rec (own_of s o) s at) w k r w'
    unfolding uses_own own_body own_uses
    own-func t ls r w' d h = rw d h

    module _ (h : Indexed s w k) where
      pub own-table : (t : _) → o ≡ O.Table t → Handles rec (end_after (own_body (own_of s o)) rec s at) s (uses_own rec (own_of s o) s at) w k (Ok k) w
      unfolding uses_own own_body own_uses body_uses
      own-table t d = rw d (handles_none rec (rec + 1) s w k h)

      pub own-mem : (l : _) → o ≡ O.Mem l → Handles rec (end_after (own_body (own_of s o)) rec s at) s (uses_own rec (own_of s o) s at) w k (Ok k) w
      unfolding uses_own own_body own_uses body_uses
      own-mem l d = rw d (handles_none rec (rec + 1) s w k h)

      pub own-global : (t : _) (c : _) → o ≡ O.Global t c → Handles rec (end_after (own_body (own_of s o)) rec s at) s (uses_own rec (own_of s o) s at) w k (Ok k) w
      unfolding uses_own own_body own_uses body_uses
      own-global t c d = rw d (handles_none rec (rec + 1) s w k h)

  -- ## An item

  module _ (at : ℕ) (x : Source) where
    module _ (r : Resolved ℕ) (w' : List ℕ) where
      pub source-own : (o : Own) → x ≡ S.Own o → Handles rec (end_after (own_body (own_of s o)) rec s at) s (uses_own rec (own_of s o) s at) w k r w'
          → Handles rec (end_after (source_body (source_of s x)) rec s at) s (uses_source rec (source_of s x) s at) w k r w'
      unfolding uses_source source_body
      source-own o d h = rw d h

      pub source-imported : (n : _) (e : Extern) → x ≡ S.Imported n e → Handles rec (rec + 1) s (used_at rec (extern_uses (extern_is s e))) w k r w'
          → Handles rec (end_after (source_body (source_of s x)) rec s at) s (uses_source rec (source_of s x) s at) w k r w'
      unfolding uses_source source_body
      source-imported n e d h = rw d h

    module _ (h : Indexed s w k) where
      pub source-table : (b : _) (xs : _) → x ≡ S.TableOf b xs → Handles rec (end_after (source_body (source_of s x)) rec s at) s (uses_source rec (source_of s x) s at) w k (Ok k) w
      unfolding uses_source source_body
      source-table b xs d = rw d (handles_none rec (rec + 1) s w k h)

      pub source-mem : (b : _) (p : _) → x ≡ S.MemOf b p → Handles rec (end_after (source_body (source_of s x)) rec s at) s (uses_source rec (source_of s x) s at) w k (Ok k) w
      unfolding uses_source source_body
      source-mem b p d = rw d (handles_none rec (rec + 1) s w k h)

  -- ## A field

  module _ (at : ℕ) (f : Field) where
    module _ (r : Resolved ℕ) (w' : List ℕ) where
      pub field_import : (n : _) (i : _) (x : Extern) → f ≡ F.Import n i x → Handles rec (rec + 1) s (used_at rec (extern_uses (extern_is s x))) w k r w'
          → Handles rec (end_after (field_body (field_of s f)) rec s at) s (uses_field rec (field_of s f) s at) w k r w'
      unfolding uses_field field_body
      field_import n i x d h = rw d h

      pub field-item : (i : _) (es : _) (x : Source) → f ≡ F.Item i es x → Handles rec (end_after (source_body (source_of s x)) rec s at) s (uses_source rec (source_of s x) s at) w k r w'
          → Handles rec (end_after (field_body (field_of s f)) rec s at) s (uses_field rec (field_of s f) s at) w k r w'
      unfolding uses_field field_body
      field-item i es x d h = rw d h

    module _ (h : Indexed s w k) where
      pub field-type : (i : _) (ps rs : _) → f ≡ F.Type i ps rs → Handles rec (end_after (field_body (field_of s f)) rec s at) s (uses_field rec (field_of s f) s at) w k (Ok k) w
      unfolding uses_field field_body
      field-type i ps rs d = rw d (handles_none rec (rec + 1) s w k h)

      pub field_export : (n : _) (j : _) (x : _) → f ≡ F.Export n j x → Handles rec (end_after (field_body (field_of s f)) rec s at) s (uses_field rec (field_of s f) s at) w k (Ok k) w
      unfolding uses_field field_body
      field_export n j x d = rw d (handles_none rec (rec + 1) s w k h)

      pub field-start : (x : _) → f ≡ F.Start x → Handles rec (end_after (field_body (field_of s f)) rec s at) s (uses_field rec (field_of s f) s at) w k (Ok k) w
      unfolding uses_field field_body
      field-start x d = rw d (handles_none rec (rec + 1) s w k h)

      pub field-elem : (i : _) (m : _) (xs : _) → f ≡ F.Elem i m xs → Handles rec (end_after (field_body (field_of s f)) rec s at) s (uses_field rec (field_of s f) s at) w k (Ok k) w
      unfolding uses_field field_body
      field-elem i m xs d = rw d (handles_none rec (rec + 1) s w k h)

      pub field_data : (i : _) (m : _) (p : _) → f ≡ F.Data i m p → Handles rec (end_after (field_body (field_of s f)) rec s at) s (uses_field rec (field_of s f) s at) w k (Ok k) w
      unfolding uses_field field_body
      field_data i m p d = rw d (handles_none rec (rec + 1) s w k h)

-- ## Whether there is a body to look at

module _ (w : List ℕ) (own : ℕ) (s : Bytes) (at rec : ℕ) where
  pub skips_own : (o : Own) (t : TypeUse) (ls : _) → o ≡ O.Func t ls → Skips w own (body_uses (body_in (own_body (own_of s o)) (rec + 1) s at))
      → Skips w own (body_uses (body_from 0 (rec + 1) s at).body)
  unfolding own_body
  skips_own o t ls d h = rw d at h

  pub skips_source : (x : Source) (o : Own) → x ≡ S.Own o → Skips w own (body_uses (body_in (source_body (source_of s x)) (rec + 1) s at))
      → Skips w own (body_uses (body_in (own_body (own_of s o)) (rec + 1) s at))
  unfolding source_body
  skips_source x o d h = rw d at h

  pub skips_field : (f : Field) (i : _) (es : _) (x : Source) → f ≡ F.Item i es x → Skips w own (body_uses (body_in (field_body (field_of s f)) (rec + 1) s at))
      → Skips w own (body_uses (body_in (source_body (source_of s x)) (rec + 1) s at))
  unfolding field_body
  skips_field f i es x d h = rw d at h

-- ## What is known of it

module _ (s : Bytes) where
  pub readable_extern : (x : Extern) (t : TypeUse) → x ≡ E.Func t → ReadableExtern s x → Readable s t.params
  readable_extern x t d v = subst (ReadableExtern s) d v

  pub readable-own : (o : Own) (t : TypeUse) (ls : _) → o ≡ O.Func t ls → ReadableOwn s o → Readable s t.params
  readable-own o t ls d v = (subst (ReadableOwn s) d v).0

  pub readable-source : (x : Source) (o : Own) → x ≡ S.Own o → ReadableSource s x → ReadableOwn s o
  readable-source x o d v = subst (ReadableSource s) d v

  pub readable-imported : (x : Source) (n : _) (e : Extern) → x ≡ S.Imported n e → ReadableSource s x → ReadableExtern s e
  readable-imported x n e d v = subst (ReadableSource s) d v

  pub readable_import : (f : Field) (n : _) (i : _) (x : Extern) → f ≡ F.Import n i x → ReadableHead s f → ReadableExtern s x
  readable_import f n i x d v = subst (ReadableHead s) d v

  pub readable-item : (f : Field) (i : _) (es : _) (x : Source) → f ≡ F.Item i es x → ReadableHead s f → ReadableSource s x
  readable-item f i es x d v = subst (ReadableHead s) d v

  -- its body reads to its end
  module _ (at rec : ℕ) where
    pub whole-own : (o : Own) (t : TypeUse) (ls : _) → o ≡ O.Func t ls → whole_field (own_body (own_of s o)) (rec + 1) s at ≡ true → (body_from 0 (rec + 1) s at).whole ≡ true
    unfolding own_body
    whole-own o t ls d h = rw d at h

    pub whole-source : (x : Source) (o : Own) → x ≡ S.Own o → whole_field (source_body (source_of s x)) (rec + 1) s at ≡ true → whole_field (own_body (own_of s o)) (rec + 1) s at ≡ true
    unfolding source_body
    whole-source x o d h = rw d at h

    pub whole-field : (f : Field) (i : _) (es : _) (x : Source) → f ≡ F.Item i es x → whole_field (field_body (field_of s f)) (rec + 1) s at ≡ true → whole_field (source_body (source_of s x)) (rec + 1) s at ≡ true
    unfolding field_body
    whole-field f i es x d h = rw d at h

pub ruleset externs = (extern_func, extern_table, extern_mem, extern_global)

pub ruleset owns = (own-func, own-table, own-mem, own-global)

pub ruleset items = (source-own, source-imported, source-table, source-mem)

pub ruleset records = (field_import, field-item, field-type, field_export, field-start, field-elem, field_data)

-- ## The uses of a record's fields

module _ (r : ℕ) (i : Option Identifier) (s : Bytes) (here : ℕ) where
  source-uses : (n : ℕ) (x : Syntax.Source Identifier) → uses (map (λ z. (r, z)) (source_fields i n x (body_in (source_body x) (r + 1) s here))) ≡ uses_source r x s here
  unfolding uses field_uses source_fields uses_source uses_own source_body own_uses body_uses
  source-uses n (Syntax.own o) = append-nil (used_at r (own_uses o) ++ body_uses (body_in (own_body o) (r + 1) s here))
  source-uses n (Syntax.imported m d) = append-nil (used_at r (extern_uses d))
  source-uses n (Syntax.table_of w xs) = refl
  source-uses n (Syntax.mem_of w d) = refl

  item-uses : (j : Space) (n : ℕ) (es : List Bytes) (x : Syntax.Source Identifier)
      → uses (map (λ z. (r, z)) (map (λ e. Syntax.export_f e j (Syntax.own_index n)) es ++ source_fields i n x (body_in (source_body x) (r + 1) s here))) ≡ uses_source r x s here
  unfolding uses field_uses
  item-uses j n [] x = source-uses n x
  item-uses j n (e ∷ es) x = item-uses j n es x

pub record_uses : (r : ℕ) (next : Space → ℕ) (f : Syntax.FieldRec Identifier) (s : Bytes) (here : ℕ)
    → uses (map (λ z. (r, z)) (fields_of next f (body_in (field_body f) (r + 1) s here))) ≡ uses_field r f s here
unfolding uses field_uses fields_of uses_field field_body
record_uses r next (Syntax.type_r i t) s here = refl
record_uses r next (Syntax.import_r n i d) s here = append-nil (used_at r (extern_uses d))
record_uses r next (Syntax.item_r i es x) s here = item-uses r i s here (source_space x) (next (source_space x)) es x
record_uses r next (Syntax.export_r n k x) s here = refl
record_uses r next (Syntax.start_r x) s here = refl
record_uses r next (Syntax.elem_r i m xs) s here = refl
record_uses r next (Syntax.data_r i m d) s here = refl
