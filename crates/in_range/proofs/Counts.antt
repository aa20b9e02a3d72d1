-- The items of a scope's fields are as many in each space as the scope says, and have its types.
use Rattle.std.specs.Prelude.{if◌then◌else◌}
use mathlib.Core.Path.{◌≡◌, refl, ap, ◌∙◌, sym}
use Prim.Native.Nat.{ℕ, ◌+◌, ◌≤◌}
use mathlib.Core.Bool.{Bool, true, false, false≢true}
use mathlib.Core.List.{List, [], ◌∷◌, ◌++◌, map, map-append, append_assoc, append-nil}
use mathlib.Core.Option.{Option, none, some}
use lib.ListN.{length, length-append, drop}
use lib.Seq.{drop-append_seam}
use native.Mathlib.Omega.{arith}
use native.Mathlib.Nat.{add_assoc, add-zero, zero-add}
use Rattle.definition.specs.Basic.{ok, each, concat_map}
use Rattle.definition.specs.Syntax.{Space, funcs, tables, mems, globals, types, elems, datas, same_space, FuncType, ExternType, func, table, mem, global, TypeUse, TypeNo, Body}
use Rattle.definition.specs.Syntax.{Own, own_func, own_table, own_mem, own_global, Field, type_f, import_f, own_f, export_f, start_f, elem_f, data_f}
use Rattle.definition.specs.Syntax.{Item, type_i, import_i, func_i, table_i, mem_i, global_i, export_i, start_i, elem_i, data_i}
use Rattle.definition.specs.Spaces.{extern_space, own_space, count}
use Rattle.definition.specs.Deinline.{Numbered}
use Rattle.definition.specs.Types.{declared_by, declared, uses, all_types}
use Rattle.definition.specs.Names.{Items, space, item_of, holder, unheld, definers, register_one, register, Scope, count_in, extern_no, own_item, resolve, resolve_all}
use Rattle.definition.specs.Assemble.{items_in}
use Rattle.in_range.specs.InRange.{item_brings, count_of, type_of, types_of}
use Rattle.laws.proofs.Interning.{intern-keeps}
use Rattle.in_range.proofs.Gives.{Holds, held, held_none, held_by, held_then}

-- ## Registered items

-- the space of the item that a field brings, if it does
abbrev pub brought : {I : Type 0} → Option (Space × Option I) → List Space
brought none = []
brought (some (k, i)) = k ∷ []

-- those of some fields, and of registered items
abbrev pub spaces : {I : Type 0} → Numbered I → List Space
spaces fs = concat_map (λ x. brought (item_of x.1)) fs

abbrev registered : {I : Type 0} → Items I → List Space
registered xs = map (λ x. x.1) xs

module _ {I : Type 0} (eq : I → I → Bool) where
  one-registered : (r : ℕ) (xs : Items I) (o : Option (Space × Option I)) → Holds (λ ys. registered ys ≡ registered xs ++ brought o) (register_one eq r xs o)
  one-registered r xs none = held xs (sym (append-nil (registered xs)))
  one-registered r xs (some (k, i)) = go (holder eq i (space k xs) (definers k xs))
    where
      go : (o : Option ℕ) → Holds (λ ys. registered ys ≡ registered xs ++ (k ∷ [])) (unheld r o (xs ++ ((r, k, i) ∷ [])))
      go none = held _ (map-append (λ x. x.1) xs ((r, k, i) ∷ []))
      go (some q) = held_none _

  -- registration brings one item for each field that has one
  all-registered : (xs : Items I) (fs : Numbered I) → Holds (λ ys. registered ys ≡ registered xs ++ spaces fs) (register eq xs fs)
  unfolding register concat_map
  all-registered xs [] = held xs (sym (append-nil (registered xs)))
  all-registered xs ((r, f) ∷ fs) = held_by _ (one-registered r xs (item_of f)) λ ys e.
      record { of = λ zs d. (all-registered ys fs).of zs d ∙ rw e (append_assoc (registered xs) (brought (item_of f)) (spaces fs)) }

-- a namespace is as long as its space has items
names-count : {I : Type 0} (k : Space) (xs : Items I) → length (space k xs) ≡ count k (registered xs)
unfolding space count
names-count k [] = refl
names-count k ((r, j, i) ∷ xs) = go (same_space k j) (names-count k xs)
  where
    go : (t : Bool) → length (space k xs) ≡ count k (registered xs)
        → length ((if t then i ∷ [] else []) ++ space k xs) ≡ (if t then 1 else 0) + count k (registered xs)
    go true e = omega (arith, e)
    go false e = omega (arith, e)

-- as many names as the fields bring items
pub named_fields : {I : Type 0} (eq : I → I → Bool) (xs : Items I) (fs : Numbered I) → register eq [] fs ≡ ok xs
    → (k : Space) → length (space k xs) ≡ count k (spaces fs)
named_fields eq xs fs e k = names-count k xs ∙ ap (count k) ((all-registered eq [] fs).of xs e)

-- ## Resolved items

module _ {I : Type 0} (Γ : Scope I) (r : ℕ) where
  -- an item has the space and declares the type that its field does
  abbrev Same : Field I → Item → Type 0
  Same x i = (item_brings i ≡ brought (item_of x)) × (type_of i ≡ declared_by x)

  extern_space_lem : (d : ExternType (TypeUse I)) → Holds (λ e. extern_space e ≡ extern_space d) (extern_no Γ r d)
  unfolding extern_no extern_space
  extern_space_lem (func t) = held_then _ λ n. held (func n) refl
  extern_space_lem (table t) = held (table t) refl
  extern_space_lem (mem l) = held (mem l) refl
  extern_space_lem (global g) = held (global g) refl

  own_same : (j : Option I) (o : Own I) (b : Body I) → Holds (Same (own_f j o b)) (own_item Γ r o b)
  unfolding own_item item_brings type_of declared_by item_of own_space
  own_same j (own_func t ls) b = held_then _ λ n. held_then _ λ _. held_then _ λ os. held _ (refl, refl)
  own_same j (own_table t) b = held _ (refl, refl)
  own_same j (own_mem l) b = held _ (refl, refl)
  own_same j (own_global t c) b = held_then _ λ o. held _ (refl, refl)

  same : (x : Field I) → Holds (Same x) (resolve Γ r x)
  unfolding resolve item_brings type_of declared_by item_of
  same (type_f j t) = held _ (refl, refl)
  same (import_f n j d) = held_by _ (extern_space_lem d) λ e h. held _ (ap (λ k. k ∷ []) h, refl)
  same (own_f j o b) = own_same j o b
  same (export_f n k x) = held_then _ λ m. held _ (refl, refl)
  same (start_f x) = held_then _ λ m. held _ (refl, refl)
  same (elem_f j m xs) = held_then _ λ y. held_then _ λ ns. held _ (refl, refl)
  same (data_f j m d) = held_then _ λ y. held _ (refl, refl)

-- the items of some fields have their spaces, and the types that they declare
record Brought {I : Type 0} (fs : Numbered I) (is : List Item) : Type 0 where
  spaces_of_lem : concat_map item_brings is ≡ spaces fs
  types_of_lem : types_of is ≡ declared fs

resolved-brought : {I : Type 0} (Γ : Scope I) (fs : Numbered I) → Holds (Brought fs) (resolve_all Γ fs)
unfolding resolve_all each concat_map types_of declared
resolved-brought Γ [] = held [] (record { spaces_of_lem = refl; types_of_lem = refl })
resolved-brought Γ ((r, x) ∷ fs) =
    held_by _ (same Γ r x) λ i h.
    held_by _ (resolved-brought Γ fs) λ is g.
    held (i ∷ is) (record { spaces_of_lem = rw (h.0, g.spaces_of_lem) refl; types_of_lem = rw (h.1, g.types_of_lem) refl })

-- ## Counting

pub count-append : (k : Space) (js ls : List Space) → count k (js ++ ls) ≡ count k js + count k ls
unfolding count
count-append k [] ls = sym (zero-add (count k ls))
count-append k (j ∷ js) ls = rw (count-append k js ls) (sym (add_assoc (if same_space k j then 1 else 0) (count k js) (count k ls)))

concat_append : {B : Type 0} (f : Item → List B) (is js : List Item) → concat_map f (is ++ js) ≡ concat_map f is ++ concat_map f js
unfolding concat_map
concat_append f [] js = refl
concat_append f (i ∷ is) js = rw (concat_append f is js, append_assoc (f i)) refl

module _ (k : Space) where
  -- added types are items of no other space
  added_none : same_space k types ≡ false → (ts : List FuncType) → count k (concat_map item_brings (map type_i ts)) ≡ 0
  unfolding concat_map item_brings count
  added_none e [] = refl
  added_none e (t ∷ ts) = rw (e, added_none e ts) refl

-- the items of types are the types
extern_no-type : (d : ExternType TypeNo) → count types (extern_space d ∷ []) ≡ 0
unfolding count extern_space
extern_no-type (func n) = refl
extern_no-type (table t) = refl
extern_no-type (mem l) = refl
extern_no-type (global g) = refl

one_type : (i : Item) → count types (item_brings i) ≡ length (type_of i)
unfolding item_brings type_of
one_type (type_i t) = unfold count in refl
one_type (import_i n d) = extern_no-type d
one_type (func_i n ls os) = unfold count in refl
one_type (table_i t) = unfold count in refl
one_type (mem_i l) = unfold count in refl
one_type (global_i t o) = unfold count in refl
one_type (export_i n k x) = unfold count in refl
one_type (start_i x) = unfold count in refl
one_type (elem_i m ns) = unfold count in refl
one_type (data_i m d) = unfold count in refl

type-count : (is : List Item) → count_of types is ≡ length (types_of is)
unfolding count_of types_of concat_map
type-count [] = unfold count in refl
type-count (i ∷ is) = count-append types (item_brings i) (concat_map item_brings is) ∙ rw (one_type i, type-count is) (sym (length-append (type_of i) (concat_map type_of is)))

type-only : (k : Space) → same_space k types ≡ true → k ≡ types
type-only funcs e = absurd (false≢true e)
type-only tables e = absurd (false≢true e)
type-only mems e = absurd (false≢true e)
type-only globals e = absurd (false≢true e)
type-only types e = refl
type-only elems e = absurd (false≢true e)
type-only datas e = absurd (false≢true e)

added-types : (ts : List FuncType) → types_of (map type_i ts) ≡ ts
unfolding types_of concat_map type_of
added-types [] = refl
added-types (t ∷ ts) = ap (λ l. t ∷ l) (added-types ts)

-- ## A scope and its items

-- of each space as many items as the scope counts, its types, and no more names than items
pub record Counted {I : Type 0} (Γ : Scope I) (is : List Item) : Type 0 where
  pub counts : (k : Space) → count_of k is ≡ count_in Γ k
  pub types_are : types_of is ≡ Γ.all_types
  pub names-within : (k : Space) → length (Γ.names k) ≤ count_in Γ k

module _ {I : Type 0} (Γ : Scope I) (fs : Numbered I) (named : (k : Space) → length (Γ.names k) ≡ count k (spaces fs))
    (extra : List FuncType) (more : Γ.all_types ≡ declared fs ++ extra) where
  module _ (is : List Item) (b : Brought fs is) where
    abbrev all : List Item
    all = is ++ map type_i extra

    all_types_lem : types_of all ≡ Γ.all_types
    unfolding types_of
    all_types_lem = concat_append type_of is (map type_i extra) ∙ rw (b.types_of_lem, added-types extra) (sym more)

    named-types : length (Γ.names types) ≡ length (declared fs)
    unfolding count_of
    named-types = named types ∙ ap (count types) (sym b.spaces_of_lem) ∙ type-count is ∙ ap length b.types_of_lem

    others : (k : Space) → same_space k types ≡ false → count_of k all ≡ length (Γ.names k)
    unfolding count_of
    others k e =
        ap (count k) (concat_append item_brings is (map type_i extra))
        ∙ count-append k (concat_map item_brings is) (concat_map item_brings (map type_i extra))
        ∙ rw (added_none k e extra, add-zero, b.spaces_of_lem) (sym (named k))

    with_added : Counted Γ all
    unfolding count_in
    with_added = record {
      counts = λ k. count_go k (same_space k types) refl;
      types_are = all_types_lem;
      names-within = λ k. within_go k (same_space k types) refl;
    }
      where
        count_go : (k : Space) (t : Bool) → same_space k types ≡ t → count_of k all ≡ (if t then length Γ.all_types else length (Γ.names k))
        count_go k true e = rw (type-only k e) (type-count all ∙ ap length all_types_lem)
        count_go k false e = others k e

        within_go : (k : Space) (t : Bool) → same_space k types ≡ t → length (Γ.names k) ≤ (if t then length Γ.all_types else length (Γ.names k))
        within_go k true e = rw (type-only k e, named-types, more, length-append (declared fs) extra) (omega arith)
        within_go k false e = omega arith

-- what a scope counts, its items have
pub items-counted : {I : Type 0} (Γ : Scope I) (eq : I → I → Bool) (xs : Items I) (fs : Numbered I)
    → register eq [] fs ≡ ok xs → ((k : Space) → Γ.names k ≡ space k xs)
    → all_types fs ≡ ok Γ.all_types → Holds (Counted Γ) (items_in Γ fs)
unfolding items_in all_types
items-counted Γ eq xs fs e n a =
    let k = intern-keeps (declared fs) (uses fs) Γ.all_types a in
    let added : drop (length (declared fs)) Γ.all_types ≡ k.added = ap (drop (length (declared fs))) k.is ∙ drop-append_seam (declared fs) k.added in
    let named : (j : Space) → length (Γ.names j) ≡ count j (spaces fs) = λ j. ap length (n j) ∙ named_fields eq xs fs e j in
    held_by _ (resolved-brought Γ fs) λ is b.
    rw added (held _ (with_added Γ fs named k.added k.is is b))
