-- The uses of fields, one list after another.
use Prim.Native.Nat.{◌+◌, ◌-◌}
use mathlib.Core.Path.{◌≡◌, refl, sym, ◌∙◌, ap}
use mathlib.Core.List.{[], ◌∷◌, ◌++◌, append_assoc}
use Rattle.definition.specs.Syntax.{Identifier}
use Rattle.definition.specs.Deinline.{Numbered}
use Rattle.definition.specs.Types.{Uses, field_uses, uses}

pub uses-append : (fs gs : Numbered Identifier) → uses (fs ++ gs) ≡ uses fs ++ uses gs
unfolding uses
uses-append [] gs = refl
uses-append ((r, f) ∷ fs) gs = ap (λ (l : Uses). field_uses r f ++ l) (uses-append fs gs) ∙ sym (append_assoc (field_uses r f) (uses fs) (uses gs))
