-- The passes over the fields, one after the other: what follows them follows the last.
use mathlib.Core.Path.{◌≡◌, refl}
use mathlib.Core.Bool.{Bool}
use mathlib.Core.List.{List, []}
use Rattle.definition.specs.Basic.{Answer, ok, fails, ◌>>=◌}
use Rattle.definition.specs.Syntax.{FuncType}
use Rattle.definition.specs.Deinline.{Numbered, import_order}
use Rattle.definition.specs.Types.{all_types}
use Rattle.definition.specs.Names.{Scope, Items, space, definers, register}
use Rattle.definition.specs.Assemble.{scope}

pub scope_then : {I A : Type 0} (strict : Bool) (eq : I → I → Bool) (fs : Numbered I) (k : Scope I → Answer A)
    → (scope strict eq fs >>= k)
    ≡ (import_order fs >>= λ _. all_types fs >>= λ ts. register eq [] fs >>= λ xs. k (record { strict = strict; eq = eq; names = λ j. space j xs; definers = λ j. definers j xs; all_types = ts }))
unfolding scope ◌>>=◌
scope_then {I} {A} strict eq fs k = go (import_order fs) (all_types fs) (register eq [] fs)
  where
    Scoped : Items I → List FuncType → Scope I
    Scoped xs ts = record { strict = strict; eq = eq; names = λ j. space j xs; definers = λ j. definers j xs; all_types = ts }

    go : (a : Answer (Unit {0})) (b : Answer (List FuncType)) (c : Answer (Items I))
        → ((a >>= λ _. b >>= λ ts. c >>= λ xs. ok (Scoped xs ts)) >>= k) ≡ (a >>= λ _. b >>= λ ts. c >>= λ xs. k (Scoped xs ts))
    go (ok u) (ok ts) (ok xs) = refl
    go (ok u) (ok ts) (fails q) = refl
    go (ok u) (fails q) c = refl
    go (fails q) b c = refl
