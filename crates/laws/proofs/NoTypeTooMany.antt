-- No type too many (document 02, §14): the types of an accepted stream serve it, no list that does has fewer, and they are what section 1 holds.
use Rattle.std.specs.Prelude.{if◌then◌else◌}
use Prim.Native.Nat.{ℕ, ◌≤◌}
use mathlib.Core.Path.{◌≡◌, ap, ◌∙◌, sym}
use mathlib.Core.Bool.{Bool, true, false}
use mathlib.Core.List.{List, [], ◌∷◌, ◌++◌, append-nil}
use mathlib.Core.Option.{some}
use lib.Dec.{leb}
use lib.ListN.{length}
use native.Mathlib.Omega.{arith}
use Rattle.definition.specs.Basic.{ok, refused, ◌>>=◌, same_bytes, at}
use Rattle.definition.specs.Syntax.{Bytes, Identifier, funcs, FuncType, Rec, Item}
use Rattle.definition.specs.Read.{read}
use Rattle.definition.specs.Deinline.{Numbered, import_order, deinline}
use Rattle.definition.specs.Types.{uses, declared, all_types}
use Rattle.definition.specs.Names.{Scope, register}
use Rattle.definition.specs.Binary.{module'}
use Rattle.definition.specs.NameSection.{functions, custom_of, subsections, name_section}
use Rattle.definition.specs.Assemble.{scope, items_in, items, resolved, fitting, module_in, named_module_in}
use Rattle.laws.specs.TypeLists.{Serves, Smallest, NoTypeTooMany, WritesSmallest}
use Rattle.laws.proofs.Interning.{came, intern-keeps}
use Rattle.laws.proofs.Smallest.{least, enough}
use Rattle.laws.proofs.Asked.{declared-records, uses-records}
use Rattle.laws.proofs.TypeSection.{module_holds}
use Rattle.laws.proofs.OneTypeList.{one-type_list}

-- ## Over the definition

module _ (s : Bytes) (rs : List (Rec Identifier)) (e : read s ≡ ok rs) (ts : List FuncType) (a : all_types (deinline rs) ≡ ok ts) where
  pub types_serve : Serves rs ts
  unfolding all_types
  types_serve =
      let k = intern-keeps (declared (deinline rs)) (uses (deinline rs)) ts a in
      record {
        more = k.added;
        begins = rw (← declared-records rs) k.is;
        holds = λ t m. (enough (declared (deinline rs)) (uses (deinline rs)) ts a).has t ((uses-records s rs e).from t m);
      }

  pub no_type_too_many : (l : List FuncType) → Serves rs l → length ts ≤ length l
  unfolding all_types
  no_type_too_many l h =
      rw (h.begins, ← declared-records rs)
      (least (uses (deinline rs)) (declared (deinline rs)) h.more ts a
      (record { has = λ t m. rw (h.begins, ← declared-records rs) at (h.holds t ((uses-records s rs e).to t m)) }))

  smallest : Smallest rs ts
  smallest = record { serves = types_serve; least = no_type_too_many }

-- ## What is written

-- the types of a scope
scope-types : (strict : Bool) (eq : Identifier → Identifier → Bool) (fs : Numbered Identifier) (Γ : Scope Identifier) → scope strict eq fs ≡ ok Γ → all_types fs ≡ ok Γ.all_types
unfolding scope
scope-types strict eq fs Γ e =
    let c = came (import_order fs) _ Γ e in
    let d = came (all_types fs) _ Γ c.2 in
    let f = came (register eq [] fs) _ Γ d.2 in
    let g = f.2 in
    let z : d.0 ≡ Γ.all_types = given _ Γ g in
    d.1 ∙ ap ok z
  where
    given : (Δ Γ : Scope Identifier) → ok Δ ≡ ok Γ → Δ.all_types ≡ Γ.all_types
    given Δ Γ e = let z : Δ ≡ Γ = cc in ap (λ x. x.all_types) z

fits : (room count : ℕ) (bs m : Bytes) → fitting room count bs ≡ ok m → bs ≡ m
unfolding fitting
fits room count bs m e = go (leb (length bs) room) e
  where
    go : (t : Bool) → (if t then ok bs else refused 18 count) ≡ ok m → bs ≡ m
    go true e = cc
    go false e = let z : ◌≡◌ {A = ℕ} 0 1 = cc in absurd (omega arith)

-- a module of these records, and after it what is not section 1
pub module_smallest : (s : Bytes) (rs : List (Rec Identifier)) → read s ≡ ok rs → (strict : Bool) (eq : Identifier → Identifier → Bool) (Γ : Scope Identifier) → scope strict eq (deinline rs) ≡ ok Γ
    → (is : List Item) → items_in Γ (deinline rs) ≡ ok is → (bs : Bytes) → (at bs 0 ≡ some 1 → ⊥) → NoTypeTooMany rs (module' is ++ bs)
module_smallest s rs e strict eq Γ f is g bs n =
    let a = scope-types strict eq (deinline rs) Γ f in
    let h = module_holds Γ (deinline rs) is bs a g n in
    record {
      types = Γ.all_types;
      held = h;
      only = λ ts k. one-type_list ts Γ.all_types (module' is ++ bs) k h;
      smallest = smallest s rs e Γ.all_types a;
    }

nothing-first : at {A = ℕ} [] 0 ≡ some 1 → ⊥
unfolding at
nothing-first e = let z : ◌≡◌ {A = ℕ} 0 1 = cc in omega arith

pub module_writes : (strict : Bool) → WritesSmallest (module_in strict same_bytes)
unfolding module_in resolved items
module_writes strict s rs e room m h =
    let c = came (scope strict same_bytes (deinline rs) >>= λ Γ. items_in Γ (deinline rs)) _ m h in
    let d = came (scope strict same_bytes (deinline rs)) _ c.0 c.1 in
    rw (sym (fits room (length rs) (module' c.0) m c.2), ← append-nil (module' c.0))
    (module_smallest s rs e strict same_bytes d.0 d.1 c.0 d.2 [] nothing-first)

-- the name section is a custom one, of number 0
custom_first : (bs : Bytes) → at (custom_of bs) 0 ≡ some 1 → ⊥
unfolding at
custom_first [] e = let z : ◌≡◌ {A = ℕ} 0 1 = cc in omega arith
custom_first (b ∷ bs) e = let z : ◌≡◌ {A = ℕ} 0 1 = cc in omega arith

names-first : (Γ : Scope Identifier) (fs : Numbered Identifier) → at (name_section Γ fs) 0 ≡ some 1 → ⊥
unfolding name_section
names-first Γ fs e = custom_first (subsections (Γ.names funcs) (functions Γ fs)) e

pub names_write : (strict : Bool) → WritesSmallest (named_module_in strict)
unfolding named_module_in
names_write strict s rs e room m h =
    let c = came (scope strict same_bytes (deinline rs)) _ m h in
    let d = came (items_in c.0 (deinline rs)) _ m c.2 in
    rw (sym (fits room (length rs) (module' d.0 ++ name_section c.0 (deinline rs)) m d.2))
    (module_smallest s rs e strict same_bytes c.0 c.1 d.0 d.1 (name_section c.0 (deinline rs)) (names-first c.0 (deinline rs)))
