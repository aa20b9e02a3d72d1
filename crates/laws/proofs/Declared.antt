-- What fields declare.
use mathlib.Core.Path.{◌≡◌, refl, ap, sym, ◌∙◌}
use Prim.Native.Nat.{ℕ, ◌+◌, ◌-◌}
use mathlib.Core.List.{List, [], ◌∷◌, ◌++◌, map, append_assoc}
use mathlib.Core.Option.{Option}
use Rattle.definition.specs.Syntax as Syntax
use Rattle.definition.specs.Syntax.{Bytes, Identifier, Space, Body, Source, FuncType}
use Rattle.definition.specs.Deinline.{Numbered, source_fields}
use Rattle.definition.specs.Types.{declared_by, declared}

pub declared-append : (fs gs : Numbered Identifier) → declared (fs ++ gs) ≡ declared fs ++ declared gs
unfolding declared
declared-append [] gs = refl
declared-append ((r, f) ∷ fs) gs = ap (λ (l : List FuncType). declared_by f ++ l) (declared-append fs gs) ∙ sym (append_assoc (declared_by f) (declared fs) (declared gs))

module _ (r : ℕ) (i : Option Identifier) (b : Body Identifier) where
  source-declares : (n : ℕ) (x : Source Identifier) → declared (map (λ z. (r, z)) (source_fields i n x b)) ≡ []
  unfolding declared declared_by source_fields
  source-declares n (Syntax.own o) = refl
  source-declares n (Syntax.imported m d) = refl
  source-declares n (Syntax.table_of w xs) = refl
  source-declares n (Syntax.mem_of w d) = refl

  -- an item and its exports declare no type
  pub item-declares : (k : Space) (n : ℕ) (es : List Bytes) (x : Source Identifier)
      → declared (map (λ z. (r, z)) (map (λ e. Syntax.export_f e k (Syntax.own_index n)) es ++ source_fields i n x b)) ≡ []
  unfolding declared declared_by
  item-declares k n [] x = source-declares n x
  item-declares k n (e ∷ es) x = item-declares k n es x
