-- Fields that differ in the numbers of their bodies' records alone give the same module, with its name section or without.
use Rattle.std.specs.Prelude.{if◌then◌else◌}
use mathlib.Core.Path.{◌≡◌, refl, ap, ap₂, fun_ext}
use Prim.Native.Nat.{ℕ}
use mathlib.Core.Bool.{Bool}
use mathlib.Core.List.{List, [], ◌∷◌, ◌++◌}
use mathlib.Core.Option.{Option}
use lib.ListN.{length}
use Rattle.definition.specs.Basic.{Answer, refused, each, concat_map, same_bytes}
use Rattle.definition.specs.Syntax.{Identifier, Own, own_func, own_table, own_mem, own_global, Rec, Body, Field, type_f, import_f, own_f, export_f, start_f, elem_f, data_f}
use Rattle.definition.specs.Deinline.{Numbered, imports_from, import_order, deinline}
use Rattle.definition.specs.Types.{used_at, own_uses, field_uses, uses, declared_by, declared, all_types}
use Rattle.definition.specs.Names.{Scope, Items, item_of, register, own_item, resolve, resolve_all}
use Rattle.definition.specs.NameSection.{function_in, functions, name_section}
use Rattle.definition.specs.Assemble as Assemble
use Rattle.definition.specs.Assemble.{module_in, named_module_in}
use Rattle.unfolding.proofs.Numbers.{Alike, same, alike_then, Paired, paired_itself, paired_append, paired_uses, alike-intern, alike-body}

-- a field and itself, or two functions with paired bodies
pub data SameField {I : Type 0} : Field I → Field I → Type 0 where
  itself : (f : Field I) → SameField f f
  bodies : (i : Option I) (o : Own I) {b c : Body I} → Paired b c → SameField (own_f i o b) (own_f i o c)

-- at the same records
pub data SameFields {I : Type 0} : Numbered I → Numbered I → Type 0 where
  no_fields : SameFields [] []
  one_more : (r : ℕ) {f g : Field I} {fs gs : Numbered I} → SameField f g → SameFields fs gs → SameFields ((r, f) ∷ fs) ((r, g) ∷ gs)

-- ## What does not look into bodies

module _ {I : Type 0} where
  -- the order of imports
  same_imports : {fs gs : Numbered I} → SameFields fs gs → (late : Bool) → imports_from late fs ≡ imports_from late gs
  unfolding imports_from
  same_imports no_fields late = refl
  same_imports (one_more r (bodies i o p) h) late = same_imports h _
  same_imports (one_more r (itself (type_f i t)) h) late = same_imports h late
  same_imports (one_more r (itself (import_f n i d)) h) late = ap (λ (a : Answer (Unit {0})). if late then refused 11 r else a) (same_imports h late)
  same_imports (one_more r (itself (own_f i o b)) h) late = same_imports h _
  same_imports (one_more r (itself (export_f n k x)) h) late = same_imports h late
  same_imports (one_more r (itself (start_f x)) h) late = same_imports h late
  same_imports (one_more r (itself (elem_f i m xs)) h) late = same_imports h late
  same_imports (one_more r (itself (data_f i m d)) h) late = same_imports h late

  -- a function of fields that does not look into bodies
  same-field : {B : Type 0} (k : Field I → B) → ((i : Option I) (o : Own I) (b c : Body I) → k (own_f i o b) ≡ k (own_f i o c)) → {f g : Field I} → SameField f g → k f ≡ k g
  same-field k e (itself f) = refl
  same-field k e (bodies i o p) = e i o _ _

  same-declared : {fs gs : Numbered I} → SameFields fs gs → declared fs ≡ declared gs
  unfolding declared declared_by
  same-declared no_fields = refl
  same-declared (one_more r s h) = ap₂ (λ a b. a ++ b) (same-field declared_by (λ i o b c. refl) s) (same-declared h)

  same-register : (eq : I → I → Bool) {fs gs : Numbered I} → SameFields fs gs → (xs : Items I) → register eq xs fs ≡ register eq xs gs
  unfolding register item_of
  same-register eq no_fields xs = refl
  same-register eq (one_more r s h) xs = rw (same-field item_of (λ i o b c. refl) s, fun_ext (same-register eq h)) refl

same-functions : (Γ : Scope Identifier) {fs gs : Numbered Identifier} → SameFields fs gs → functions Γ fs ≡ functions Γ gs
unfolding functions function_in concat_map
same-functions Γ no_fields = refl
same-functions Γ (one_more r s h) = ap₂ (λ a b. a ++ b) (same-field (function_in Γ r) (λ i o b c. refl) s) (same-functions Γ h)

-- ## What does

module _ {I : Type 0} where
  same-uses : {fs gs : Numbered I} → SameFields fs gs → Paired (uses fs) (uses gs)
  unfolding uses field_uses
  same-uses no_fields = paired_itself []
  same-uses (one_more r (itself f) h) = paired_append (paired_itself (field_uses r f)) (same-uses h)
  same-uses (one_more r (bodies i o p) h) = paired_append (paired_append (paired_itself (used_at r (own_uses o))) (paired_uses p)) (same-uses h)

  module _ (Γ : Scope I) where
    same-own : (r : ℕ) (o : Own I) {b c : Body I} → Paired b c → Alike (own_item Γ r o b) (own_item Γ r o c)
    unfolding own_item
    same-own r (own_func t ls) p = alike_then (same _) λ n. alike_then (same _) λ _. alike_then (alike-body Γ _ p []) λ os. same _
    same-own r (own_table t) p = same _
    same-own r (own_mem l) p = same _
    same-own r (own_global t c) p = same _

    same-resolve : (r : ℕ) {f g : Field I} → SameField f g → Alike (resolve Γ r f) (resolve Γ r g)
    unfolding resolve
    same-resolve r (itself f) = same _
    same-resolve r (bodies i o p) = same-own r o p

    same-all : {fs gs : Numbered I} → SameFields fs gs → Alike (resolve_all Γ fs) (resolve_all Γ gs)
    unfolding resolve_all each
    same-all no_fields = same _
    same-all (one_more r s h) = alike_then (same-resolve r s) λ i. alike_then (same-all h) λ is. same _

    same-items : {fs gs : Numbered I} → SameFields fs gs → Alike (Assemble.items_in Γ fs) (Assemble.items_in Γ gs)
    unfolding Assemble.items_in
    same-items h = rw (same-declared h) (alike_then (same-all h) λ is. same _)

  same-scope : (strict : Bool) (eq : I → I → Bool) {fs gs : Numbered I} → SameFields fs gs → Alike (Assemble.scope strict eq fs) (Assemble.scope strict eq gs)
  unfolding Assemble.scope import_order all_types
  same-scope strict eq h =
      rw (same_imports h _, same-declared h, same-register eq h [])
      (alike_then (same _) λ _. alike_then (alike-intern (same-uses h) _) λ ts. same _)

  -- ## The makers of the calls

  module _ (rs ts : List (Rec I)) (fields : SameFields (deinline rs) (deinline ts)) (count : length rs ≡ length ts) (strict : Bool) (eq : I → I → Bool) (room : ℕ) where
    pub same_module : Alike (module_in strict eq room rs) (module_in strict eq room ts)
    unfolding module_in Assemble.resolved Assemble.items
    same_module = rw count (alike_then (alike_then (same-scope strict eq fields) λ Γ. same-items Γ fields) λ is. same _)

module _ (rs ts : List (Rec Identifier)) (fields : SameFields (deinline rs) (deinline ts)) (count : length rs ≡ length ts) (strict : Bool) (room : ℕ) where
  pub same-named : Alike (named_module_in strict room rs) (named_module_in strict room ts)
  unfolding named_module_in name_section
  same-named = rw count (alike_then (same-scope strict same_bytes fields) λ Γ. rw (same-functions Γ fields) (alike_then (same-items Γ fields) λ is. same _))
