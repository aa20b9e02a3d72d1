-- De-inlining brings what its records bring: the fields of a record have as many items of each space as it says.
use mathlib.Core.Path.{◌≡◌, refl, ap, ◌∙◌}
use Prim.Native.Nat.{ℕ, ◌+◌, ◌<◌}
use mathlib.Core.List.{List, [], ◌∷◌, ◌++◌, map}
use mathlib.Core.Option.{Option}
use borrow.Author.Tests.{eq-eqb}
use native.Mathlib.Omega.{arith}
use Rattle.definition.specs.Basic.{concat_map}
use Rattle.definition.specs.Syntax.{Bytes, Space, code, own_index, Body, Source, own, imported, table_of, mem_of}
use Rattle.definition.specs.Syntax.{FieldRec, type_r, import_r, item_r, export_r, start_r, elem_r, data_r, Field, export_f}
use Rattle.definition.specs.Spaces.{own_space, source_space, segments, brings, count}
use Rattle.definition.specs.Deinline.{Numbered, source_fields, fields_of}
use Rattle.definition.specs.Names.{item_of}
use Rattle.in_range.proofs.Counts.{brought, spaces, count-append}

-- an item's space counts it
pub counts_itself : (k : Space) (js : List Space) → 0 < count k (k ∷ js)
unfolding count
counts_itself k js = rw (eq-eqb (code k) (code k) refl) (omega arith)

module _ {I : Type 0} (k : Space) where
  abbrev field_spaces : List (Field I) → List Space
  field_spaces xs = concat_map (λ x. brought (item_of x)) xs

  exports_bring : (j : Space) (n : ℕ) (es : List Bytes) (xs : List (Field I))
      → field_spaces (map (λ e. export_f e j (own_index n)) es ++ xs) ≡ field_spaces xs
  unfolding concat_map item_of
  exports_bring j n [] xs = refl
  exports_bring j n (e ∷ es) xs = exports_bring j n es xs

  source-brings : (i : Option I) (n : ℕ) (x : Source I) (b : Body I)
      → count k (field_spaces (source_fields i n x b)) ≡ count k (source_space x ∷ segments x)
  unfolding source_fields concat_map item_of source_space segments own_space count
  source-brings i n (own o) b = refl
  source-brings i n (imported m d) b = refl
  source-brings i n (table_of wide xs) b = omega arith
  source-brings i n (mem_of wide d) b = omega arith

  field-brings : (next : Space → ℕ) (f : FieldRec I) (b : Body I) → count k (field_spaces (fields_of next f b)) ≡ count k (brings f)
  unfolding fields_of brings
  field-brings next (type_r i t) b = unfold concat_map item_of in refl
  field-brings next (import_r n i d) b = unfold concat_map item_of in refl
  field-brings next (item_r i es x) b =
      let n = next (source_space x) in
      rw (exports_bring (source_space x) n es (source_fields i n x b)) (source-brings i n x b)
  field-brings next (export_r n j x) b = unfold concat_map item_of in refl
  field-brings next (start_r x) b = unfold concat_map item_of in refl
  field-brings next (elem_r i m xs) b = unfold concat_map item_of in refl
  field-brings next (data_r i m d) b = unfold concat_map item_of in refl

  -- the fields of one record, and those after it
  spaces_here : (r : ℕ) (xs : List (Field I)) (fs : Numbered I)
      → count k (spaces (map (λ x. (r, x)) xs ++ fs)) ≡ count k (field_spaces xs) + count k (spaces fs)
  unfolding concat_map
  spaces_here r [] fs = unfold count in omega arith
  spaces_here r (x ∷ xs) fs =
      let later : count k (spaces (map (λ y. (r, y)) xs ++ fs)) ≡ count k (field_spaces xs) + count k (spaces fs) = spaces_here r xs fs in
      rw (count-append k (brought (item_of x)) (spaces (map (λ y. (r, y)) xs ++ fs)), count-append k (brought (item_of x)) (field_spaces xs), later)
      (omega arith)

  pub record_brings : (r : ℕ) (next : Space → ℕ) (f : FieldRec I) (b : Body I) (fs : Numbered I)
      → count k (spaces (map (λ x. (r, x)) (fields_of next f b) ++ fs)) ≡ count k (brings f) + count k (spaces fs)
  record_brings r next f b fs = spaces_here r (fields_of next f b) fs ∙ ap (λ n. n + count k (spaces fs)) (field-brings next f b)
