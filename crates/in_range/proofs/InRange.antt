-- In what a strict call writes every index lies below its space's count (document 02, §8).
use Rattle.std.specs.Prelude.{if◌then◌else◌}
use mathlib.Core.Path.{◌≡◌, refl, ◌∙◌, sym, subst}
use Prim.Native.Nat.{ℕ, ◌≤◌}
use mathlib.Core.Bool.{Bool, true, false}
use mathlib.Core.List.{List, [], ◌∷◌, ◌++◌, map, Memᴰ}
use mathlib.Core.Option.{none, some}
use lib.ListN.{length, length-append, length-map, drop}
use native.Mathlib.Omega.{arith}
use Rattle.definition.specs.Basic.{Answer, ok, each, some_or, same_bytes}
use Rattle.definition.specs.Syntax.{Bytes, Identifier, Rec, Space, funcs, tables, mems, FuncType, ExternType, func, table, mem, global, Mode, passive, active}
use Rattle.definition.specs.Syntax.{Index, Local, TypeUse, Own, own_func, own_table, own_mem, own_global, Plain, Body}
use Rattle.definition.specs.Syntax.{TypeNo, Item, type_i, Field, type_f, import_f, own_f, export_f, start_f, elem_f, data_f}
use Rattle.definition.specs.Spaces.{count}
use Rattle.definition.specs.Deinline.{Numbered, import_order, deinline}
use Rattle.definition.specs.Types.{signature, is_inline, use_of, used_at, body_uses, extern_uses, own_uses, field_uses, uses, declared, all_types}
use Rattle.definition.specs.Names.{Namespace, Scope, space, definers, register, count_in, is_absent, param_names, locals_of, const_op, own_item, extern_no, table_no, mode_of, resolve, resolve_all}
use Rattle.definition.specs.Read.{read}
use Rattle.definition.specs.Assemble.{items_in, items, resolved}
use Rattle.in_range.specs.InRange.{Every, Below, ConstInRange, ExternInRange, ModeInRange, local_count, ItemInRange, InRange}
use Rattle.laws.proofs.Interning.{came, use_finds_its_type}
use Rattle.laws.proofs.Passes.{scope_then}
use Rattle.in_range.proofs.Gives.{every_append, every_left, every_right, Holds, held, held_by, held_then, held-each}
use Rattle.in_range.proofs.Sorts.{Told, OwnBelow, Sorted, BodySorted}
use Rattle.in_range.proofs.SortedFields.{OwnSorted, ExternTold, ModeOwn, FieldSorted, NumberedSorted}
use Rattle.in_range.proofs.SortedStream.{stream_sorted}
use Rattle.in_range.proofs.Counts.{spaces, Counted, named_fields, items-counted}
use Rattle.in_range.proofs.StrictBodies.{Agrees, params_agree, AllServed, served, Strictly, item-held, told-held, type_no-held, plain-held, body-held}

module _ {I : Type 0} (eq : I → I → Bool) (names : Space → Namespace I) (records : Space → List ℕ) (ts : List FuncType) (is : List Item) where
  abbrev Γ : Scope I
  Γ = Strictly eq names records ts

  module _ (c : Counted Γ is) where
    -- ## Fields

    module _ (r : ℕ) where
      const_held : (p : Plain I) → Sorted p → Holds (ConstInRange is) (const_op Γ r p)
      unfolding const_op
      const_held p s = plain-held eq names records ts is c [] [] r p s

      -- a function's locals are its parameters and its own
      locals-length : (t : TypeUse I) (ls : List (Local I)) (n : TypeNo) → (is_inline t ≡ true → Agrees (signature t) ts n)
          → length (locals_of ts n t ls) ≡ local_count is n (length (map (λ l. l.type) ls))
      unfolding locals_of
      locals-length t ls n h =
          length-append (param_names ts n t) (map (λ l. l.id) ls)
          ∙ rw (params_agree ts t n h, length-map ls (λ l. l.id), length-map ls (λ l. l.type), c.types_are) refl

      own_held : (o : Own I) (b : Body I) → OwnSorted o → BodySorted b → AllServed ts (used_at r (own_uses o) ++ body_uses b)
          → Holds (ItemInRange is) (own_item Γ r o b)
      unfolding own_item own_uses
      own_held (own_func t ls) b s f h =
          held_by _ (type_no-held eq names records ts is c r t s (served ts r (use_of t) (every_left _ (used_at r (use_of t)) (body_uses b) h))) λ n g.
          held_then _ λ _.
          held_by _ (body-held eq names records ts is c (locals_of ts n t ls) [] b f (every_right _ (used_at r (use_of t)) (body_uses b) h)) λ os k.
          held _ (g.0, rw (← locals-length t ls n g.1) k)
      own_held (own_table t) b s f h = held _ tt
      own_held (own_mem l) b s f h = held _ tt
      own_held (own_global t p) b s f h = held_by _ (const_held p s) λ o g. held _ g

      extern_held : (d : ExternType (TypeUse I)) → ExternTold d → AllServed ts (used_at r (extern_uses d)) → Holds (ExternInRange is) (extern_no Γ r d)
      unfolding extern_no extern_uses
      extern_held (func t) s h = held_by _ (type_no-held eq names records ts is c r t s (served ts r (use_of t) h)) λ n g. held _ g.0
      extern_held (table t) s h = held _ tt
      extern_held (mem l) s h = held _ tt
      extern_held (global g) s h = held _ tt

      table-held : (x : Index I) → OwnBelow (count_in Γ tables) x → Holds (λ y. Below is tables (some_or 0 y)) (table_no Γ r x)
      unfolding table_no
      table-held x o = held_by _ (item-held eq names records ts is c tables r x o) λ n h. held _ (go n h (is_absent x))
        where
          go : (n : ℕ) → Below is tables n → (t : Bool) → Below is tables (some_or 0 (if t then none else some n))
          go n h true = omega arith
          go n h false = h

      mode-held : {X : Type 0} (k : Space) (to : X → ℕ) (f : ℕ → Index I → Answer X)
          → ((x : Index I) → OwnBelow (count_in Γ k) x → Holds (λ y. Below is k (to y)) (f r x))
          → (m : Mode (Index I) (Plain I)) → ModeOwn (count_in Γ) k m → Holds (ModeInRange is k to) (mode_of Γ f r m)
      unfolding mode_of
      mode-held k to f h passive s = held _ tt
      mode-held k to f h (active x p) s = held_by _ (h x s.0) λ y g. held_by _ (const_held p s.1) λ o q. held _ (g, q)

      resolve-held : (x : Field I) → FieldSorted (count_in Γ) x → AllServed ts (field_uses r x) → Holds (ItemInRange is) (resolve Γ r x)
      unfolding resolve field_uses
      resolve-held (type_f i t) s h = held _ tt
      resolve-held (import_f n i d) s h = held_by _ (extern_held d s h) λ e g. held _ g
      resolve-held (own_f i o b) s h = own_held o b s.0 s.1 h
      resolve-held (export_f n k x) s h = held_by _ (item-held eq names records ts is c k r x s) λ m g. held _ g
      resolve-held (start_f x) s h = held_by _ (told-held eq names records ts is c funcs r x s) λ m g. held _ g
      resolve-held (elem_f i m xs) s h =
          held_by _ (mode-held tables (some_or 0) _ table-held m s.0) λ y g.
          held_by _ (held-each Told _ xs s.1 (told-held eq names records ts is c funcs r)) λ ns f.
          held _ (g, f)
      resolve-held (data_f i m d) s h = held_by _ (mode-held mems (λ n. n) _ (item-held eq names records ts is c mems r) m s) λ y g. held _ g

    all_held : (fs : Numbered I) → Every (NumberedSorted (count_in Γ)) fs → AllServed ts (uses fs) → Holds (Every (ItemInRange is)) (resolve_all Γ fs)
    unfolding resolve_all each uses
    all_held [] s h = held [] tt
    all_held ((r, x) ∷ fs) s h =
        held_by _ (resolve-held r x s.0 (every_left _ (field_uses r x) (uses fs) h)) λ i g.
        held_by _ (all_held fs s.1 (every_right _ (field_uses r x) (uses fs) h)) λ js f.
        held (i ∷ js) (g, f)

  types-held : (us : List FuncType) → Every (ItemInRange is) (map type_i us)
  types-held [] = tt
  types-held (u ∷ us) = (tt, types-held us)

  -- with the added types
  items-held : Counted Γ is → (fs : Numbered I) → Every (NumberedSorted (count_in Γ)) fs → AllServed ts (uses fs) → items_in Γ fs ≡ ok is → InRange is
  unfolding items_in
  items-held c fs s h e =
      let d = came (resolve_all Γ fs) _ is e in
      let g = d.2 in
      let added = drop (length (declared fs)) ts in
      let z : d.0 ++ map type_i added ≡ is = cc in
      subst (Every (ItemInRange is)) z (every_append (ItemInRange is) d.0 (map type_i added) ((all_held c fs s h).of d.0 d.1) (types-held added))

-- ## The theorem

every_mem : {A : Type 0} (P : A → Type 0) (xs : List A) → ((x : A) → Memᴰ x xs → P x) → Every P xs
every_mem P [] f = tt
every_mem P (x ∷ xs) f = (f x (Memᴰ.head refl), every_mem P xs (λ y m. f y (Memᴰ.tail m)))

-- the items of a stream that was read, where every number was checked
pub strict_in_range : (s : Bytes) (rs : List (Rec Identifier)) → read s ≡ ok rs → (is : List Item) → resolved true same_bytes rs ≡ ok is → InRange is
unfolding resolved items
strict_in_range s rs e is f =
    let fs = deinline rs in
    let a = came (import_order fs) _ is (sym (scope_then true same_bytes fs (λ Γ. items_in Γ fs)) ∙ f) in
    let b = came (all_types fs) _ is a.2 in
    let d = came (register same_bytes [] fs) _ is b.2 in
    let Δ = Strictly same_bytes (λ j. space j d.0) (λ j. definers j d.0) b.0 in
    let c = (items-counted Δ same_bytes d.0 fs d.1 (λ k. refl) b.1).of is d.2 in
    let within : (k : Space) → count k (spaces fs) ≤ count_in Δ k = λ k. rw (← named_fields same_bytes d.0 fs d.1 k) (c.names-within k) in
    items-held same_bytes _ _ b.0 is c fs (stream_sorted s rs e (count_in Δ) within)
    (every_mem _ (uses fs) (λ u m. use_finds_its_type fs b.0 b.1 u.0 u.1 m)) d.2
