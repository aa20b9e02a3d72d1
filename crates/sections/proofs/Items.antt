-- The items of the module, and their entries: section 1 is that of the types, and the others have the entries of the fields.
use Prim.Native.Nat.{ℕ, min}
use mathlib.Core.Path.{◌≡◌, refl, sym, ◌∙◌, ap}
use mathlib.Core.Bool.{false}
use mathlib.Core.List.{List, [], ◌∷◌, ◌++◌, map, append_assoc, append-nil}
use lib.Dec.{eqb}
use lib.ListN.{length, drop, get_or}
use native.Mathlib.Omega.{arith}
use borrow.Author.Tests.{ne_eqb}
use Rattle.definition.specs.Basic.{Answer, ok, fails, ◌>>=◌, concat_map}
use Rattle.definition.specs.Syntax.{FuncType}
use Rattle.definition.specs.Syntax.{Item, type_i, import_i, func_i, table_i, mem_i, global_i, export_i, start_i, elem_i, data_i}
use Rattle.definition.specs.Types.{declared}
use Rattle.definition.specs.Names.{resolve_all}
use Rattle.definition.specs.Binary.{func_type, entries, in_section, data_count, section, section_of}
use Rattle.definition.specs.Assemble.{items_in}
use Rattle.laws.proofs.TypeSection.{section-append, type-section}
use Rattle.area.specs.Layout.{TOTAL, TYPES}
use Rattle.type_table.specs.Table.{types_in}
use Rattle.type_table.proofs.Types.{table-length}
use Rattle.walk.specs.Walk.{fields_in}
use Rattle.scope.specs.Scope.{scope_in}
use Rattle.deinline.specs.Entry.{Entries, untyped, entries_of}
use Rattle.kept.specs.Content.{Fine, kept}
use Rattle.sections.specs.Write.{Writable, all_entries, kept_items, module_items}

-- entries that are there come from items that are there
items_of : (a : Answer (List Item)) (es : Entries) → (a >>= λ is. ok (concat_map untyped is)) ≡ ok es → a ≡ ok (kept_items a)
unfolding ◌>>=◌
items_of (ok is) es e = refl
items_of (fails q) es e = let z : ◌≡◌ {A = ℕ} 0 1 = cc in absurd (omega arith)

with_added : (a : Answer (List Item)) (more : List Item) → a ≡ ok (kept_items a) → (a >>= λ is. ok (is ++ more)) ≡ ok (kept_items a ++ more)
unfolding ◌>>=◌
with_added (ok is) more e = refl
with_added (fails q) more e = let z : ◌≡◌ {A = ℕ} 0 1 = cc in absurd (omega arith)

-- the items of the definition are those of the module
pub items_are : (s w : List ℕ) → Fine (entries_of (scope_in s w) (fields_in s)) → items_in (scope_in s w) (fields_in s) ≡ ok (module_items s w)
unfolding items_in module_items entries_of scope_in
items_are s w f =
    with_added (resolve_all (scope_in s w) (fields_in s)) (map type_i (drop (length (declared (fields_in s))) (types_in s w)))
    (items_of (resolve_all (scope_in s w) (fields_in s)) f.entries f.is)

-- ## Section 1

pub first-section : (s w : List ℕ) → Writable s w → section (concat_map entries (module_items s w) ++ data_count (module_items s w)) 1 ≡ section_of 1 (map func_type (types_in s w))
unfolding scope_in
first-section s w v = type-section (scope_in s w) (fields_in s) (module_items s w) v.typed.all (items_are s w v.fine)

-- ## The others

concat_append : (is js : List Item) → concat_map entries (is ++ js) ≡ concat_map entries is ++ concat_map entries js
unfolding concat_map
concat_append [] js = refl
concat_append (i ∷ is) js = ap (λ (z : Entries). entries i ++ z) (concat_append is js) ∙ sym (append_assoc (entries i) (concat_map entries is) (concat_map entries js))

-- what the fields' items have there
pub field-items : (s w : List ℕ) → all_entries s w ≡ concat_map untyped (kept_items (resolve_all (scope_in s w) (fields_in s)))
unfolding all_entries entries_of ◌>>=◌
field-items s w = go (resolve_all (scope_in s w) (fields_in s))
  where
    go : (a : Answer (List Item)) → kept (a >>= λ is. ok (concat_map untyped is)) ≡ concat_map untyped (kept_items a)
    go (ok is) = refl
    go (fails q) = unfold concat_map in refl

module _ (k : ℕ) (other : eqb k 1 ≡ false) where
  -- a type has no entry there
  item_beside : (i : Item) → in_section k (entries i) ≡ in_section k (untyped i)
  unfolding untyped
  item_beside (type_i t) = unfold entries in_section in (rw other refl)
  item_beside (import_i n d) = refl
  item_beside (func_i n ls os) = refl
  item_beside (table_i t) = refl
  item_beside (mem_i l) = refl
  item_beside (global_i t o) = refl
  item_beside (export_i n j x) = refl
  item_beside (start_i x) = refl
  item_beside (elem_i m ns) = refl
  item_beside (data_i m d) = refl

  items_beside : (is : List Item) → in_section k (concat_map entries is) ≡ in_section k (concat_map untyped is)
  unfolding concat_map
  items_beside [] = refl
  items_beside (i ∷ is) =
      section-append k (entries i) (concat_map entries is)
      ∙ rw (item_beside i, items_beside is) (sym (section-append k (untyped i) (concat_map untyped is)))

  types_beside : (ts : List FuncType) → in_section k (concat_map entries (map type_i ts)) ≡ []
  unfolding concat_map entries in_section
  types_beside [] = refl
  types_beside (t ∷ ts) = rw other (types_beside ts)

pub others_same : (s w : List ℕ) (k : ℕ) → (k ≡ 1 → ⊥) → in_section k (concat_map entries (module_items s w)) ≡ in_section k (all_entries s w)
unfolding module_items
others_same s w k h =
    let o = ne_eqb k 1 h in
    let is = kept_items (resolve_all (scope_in s w) (fields_in s)) in
    let ts = drop (length (declared (fields_in s))) (types_in s w) in
    ap (in_section k) (concat_append is (map type_i ts))
    ∙ section-append k (concat_map entries is) (concat_map entries (map type_i ts))
    ∙ rw (types_beside k o ts, append-nil) (items_beside k o is ∙ ap (in_section k) (sym (field-items s w)))

-- ## How many types

pub types-count : (s w : List ℕ) → length (types_in s w) ≡ min (get_or w TOTAL 0) 256
unfolding types_in
types-count s w = table-length (min (get_or w TOTAL 0) 256) s w TYPES
