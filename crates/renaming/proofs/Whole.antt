-- Two namings of the places of some records give the same items, or the same refusal.
use Rattle.std.specs.Prelude.{if◌then◌else◌}
use mathlib.Core.Path.{◌≡◌, refl, ◌∙◌, sym}
use Prim.Native.Nat.{ℕ}
use mathlib.Core.Bool.{Bool, true, false}
use mathlib.Core.List.{List, [], ◌∷◌, ◌++◌, map, map-append}
use mathlib.Core.Option.{Option, none, some}
use borrow.Author.Tests.{eqb-true}
use Rattle.definition.specs.Basic.{Answer, ok, fails, ◌>>=◌, each, at}
use Rattle.definition.specs.Syntax.{Space, funcs, tables, mems, globals, types, elems, datas, code, same_space, FuncType, Rec}
use Rattle.definition.specs.Deinline.{Numbered, deinline_from, deinline, import_order}
use Rattle.definition.specs.Names.{Namespace, Items, space, definers, item_of, holder, unheld, register_one, register, resolve_all}
use Rattle.definition.specs.Assemble.{items_in, items, resolved}
use Rattle.laws.proofs.Passes.{scope_then}
use Rattle.renaming.specs.Shape.{map_id, map_rec}
use Rattle.renaming.specs.Kinds.{Kind, in_space, Names, id_names, names}
use Rattle.renaming.proofs.Every.{Every, parts, wholes, nothing_said, All}
use Rattle.renaming.proofs.Maps.{map_numbered, map_all, map_defined, map_item?, map_items, space-map, definers-map, item_of-map, imports_from-map, all_types-map, declared-map, deinline_from-map}
use Rattle.renaming.proofs.Same.{bind_same, holder-same, resolve_same}
use Rattle.renaming.proofs.Fields.{item_names, numbered_names, of_fields}

-- ## A space is known by its code

abbrev spaces : List Space
spaces = funcs ∷ tables ∷ mems ∷ globals ∷ types ∷ elems ∷ datas ∷ []

at_code : (k : Space) → at spaces (code k) ≡ some k
unfolding at
at_code funcs = refl
at_code tables = refl
at_code mems = refl
at_code globals = refl
at_code types = refl
at_code elems = refl
at_code datas = refl

same-space : (k j : Space) → same_space k j ≡ true → j ≡ k
same-space k j e = let c : code k ≡ code j = eqb-true (code k) (code j) e in cc (at_code k, at_code j)

bind_assoc : {A B C : Type 0} (m : Answer A) (u : A → Answer B) (v : B → Answer C) → (m >>= u >>= v) ≡ (m >>= λ a. u a >>= v)
unfolding ◌>>=◌
bind_assoc (ok a) u v = refl
bind_assoc (fails q) u v = refl

-- ## Registration

abbrev items_names : {P : Type 0} → Items P → Names P
items_names [] = []
items_names ((r, k, i) ∷ xs) = id_names (in_space k) i ++ items_names xs

module _ {P : Type 0} {M : Kind → P → Type 0} where
  item-more : (xs : Items P) (r : ℕ) (k : Space) (i : Option P) → Every M (items_names xs) → Every M (id_names (in_space k) i) → Every M (items_names (xs ++ ((r, k, i) ∷ [])))
  item-more [] r k i w h = search wholes
  item-more (y ∷ xs) r k i w h = let v = item-more xs r k i (search parts) h in search (wholes, parts)

  one-all : (k j : Space) (i : Option P) (ns : Namespace P) (t : Bool) → same_space k j ≡ t
      → Every M (id_names (in_space j) i) → All M (in_space k) ns → All M (in_space k) ((if t then i ∷ [] else []) ++ ns)
  one-all k j i ns true e h w = (rw (same-space k j e) at h, w)
  one-all k j i ns false e h w = w

  -- the names of a space are of its kind
  space-all : (k : Space) (xs : Items P) → Every M (items_names xs) → All M (in_space k) (space k xs)
  unfolding space
  space-all k [] h = tt
  space-all k ((r, j, i) ∷ xs) h = one-all k j i (space k xs) (same_space k j) refl (search parts) (space-all k xs (search parts))

module _ {P I : Type 0} (eq : I → I → Bool) (f g : P → I) (M : Kind → P → Type 0)
    (same : (k : Kind) (p q : P) → M k p → M k q → eq (f p) (f q) ≡ eq (g p) (g q)) where
  -- what follows a registration is the same on either side
  abbrev Follow : {A : Type 0} → (Items I → Answer A) → (Items I → Answer A) → Type 0
  Follow u v = (ys : Items P) → Every M (items_names ys) → u (map_items f ys) ≡ v (map_items g ys)

  unheld_then : {A : Type 0} (r : ℕ) (held : Option ℕ) {a b : Items I} (u v : Items I → Answer A) → u a ≡ v b
      → (unheld r held a >>= u) ≡ (unheld r held b >>= v)
  unfolding ◌>>=◌
  unheld_then r none u v e = e
  unheld_then r (some q) u v e = refl

  one_then : {A : Type 0} (r : ℕ) (x : Option (Space × Option P)) (xs : Items P) → Every M (items_names xs) → Every M (item_names x)
      → (u v : Items I → Answer A) → Follow u v
      → (register_one eq r (map_items f xs) (map_item? f x) >>= u) ≡ (register_one eq r (map_items g xs) (map_item? g x) >>= v)
  unfolding ◌>>=◌
  one_then r none xs w h u v e = e xs w
  one_then r (some (j, i)) xs w h u v e =
      rw (
        space-map f j xs,
        space-map g j xs,
        definers-map f j xs,
        definers-map g j xs,
        holder-same eq f g M same (in_space j) i (space j xs) (definers j xs) h (space-all j xs w),
        ← map-append (map_defined f) xs ((r, j, i) ∷ []),
        ← map-append (map_defined g) xs ((r, j, i) ∷ []),
      )
      (unheld_then r (holder eq (map_id g i) (map_all g (space j xs)) (definers j xs)) u v (e (xs ++ ((r, j, i) ∷ [])) (item-more xs r j i w h)))

  register_then : {A : Type 0} (fs : Numbered P) (xs : Items P) → Every M (items_names xs) → Every M (numbered_names fs)
      → (u v : Items I → Answer A) → Follow u v
      → (register eq (map_items f xs) (map_numbered f fs) >>= u) ≡ (register eq (map_items g xs) (map_numbered g fs) >>= v)
  unfolding register ◌>>=◌ numbered_names
  register_then [] xs w h u v e = e xs w
  register_then ((r, x) ∷ fs) xs w h u v e =
      rw (
        item_of-map f x,
        item_of-map g x,
        bind_assoc (register_one eq r (map_items f xs) (map_item? f (item_of x))) (λ ys. register eq ys (map_numbered f fs)) u,
        bind_assoc (register_one eq r (map_items g xs) (map_item? g (item_of x))) (λ ys. register eq ys (map_numbered g fs)) v,
      )
      (one_then r (item_of x) xs w (search parts) _ _ (λ ys y. register_then fs ys y (search parts) u v e))

  -- ## Resolution, and the whole

  resolve_all-same : (strict : Bool) (xs : Items P) (ts : List FuncType) → Every M (items_names xs) → (fs : Numbered P) → Every M (numbered_names fs)
      → resolve_all (record { strict = strict; eq = eq; names = λ k. space k (map_items f xs); definers = λ k. definers k (map_items f xs); all_types = ts }) (map_numbered f fs)
      ≡ resolve_all (record { strict = strict; eq = eq; names = λ k. space k (map_items g xs); definers = λ k. definers k (map_items g xs); all_types = ts }) (map_numbered g fs)
  unfolding resolve_all each numbered_names
  resolve_all-same strict xs ts w [] h = refl
  resolve_all-same strict xs ts w ((r, x) ∷ fs) h =
      bind_same (resolve_same eq f g M same strict xs ts (λ k. space-all k xs w) r x (search parts)) λ y.
      bind_same (resolve_all-same strict xs ts w fs (search parts)) λ ys. refl

  items-same : (strict : Bool) (fs : Numbered P) → Every M (numbered_names fs) → items strict eq (map_numbered f fs) ≡ items strict eq (map_numbered g fs)
  unfolding items items_in import_order
  items-same strict fs h =
      rw (scope_then strict eq (map_numbered f fs) (λ Γ. items_in Γ (map_numbered f fs)), scope_then strict eq (map_numbered g fs) (λ Γ. items_in Γ (map_numbered g fs)))
      (bind_same (imports_from-map f false fs ∙ sym (imports_from-map g false fs)) λ _.
      bind_same (all_types-map f fs ∙ sym (all_types-map g fs)) λ ts.
      register_then fs [] nothing_said h _ _ λ xs w.
      bind_same (resolve_all-same strict xs ts w fs h) λ is. rw (declared-map f fs, declared-map g fs))

  -- Demand 3 on one list of places with two namings
  pub resolved-same : (strict : Bool) (zs : List (Rec P)) → Every M (names zs) → resolved strict eq (map (map_rec f) zs) ≡ resolved strict eq (map (map_rec g) zs)
  unfolding resolved deinline names
  resolved-same strict zs h =
      let e = items-same strict (deinline_from 0 [] zs) (of_fields 0 0 [] zs h) in
      rw (deinline_from-map f 0 [] zs, deinline_from-map g 0 [] zs, e)
