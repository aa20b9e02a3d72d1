-- Demand 3 for the size beside the types (document 02, §10): no identifier changes the types, so it is the same, after declaring and after adding.
use mathlib.Core.Path.{◌≡◌, ap, ◌∙◌, sym}
use Prim.Native.Nat.{ℕ}
use mathlib.Core.List.{List, [], map}
use Rattle.definition.specs.Basic.{ok}
use Rattle.definition.specs.Syntax.{Bytes, Identifier, FuncType, Rec}
use Rattle.definition.specs.Deinline.{deinline_from, deinline}
use Rattle.definition.specs.Types.{declared, all_types}
use Rattle.definition.specs.Binary.{types_size}
use Rattle.renaming.specs.Shape.{shape, map_rec}
use Rattle.renaming.specs.Renamed.{Renamed}
use Rattle.renaming.proofs.Maps.{declared-map, all_types-map, deinline_from-map}
use Rattle.renaming.proofs.Places.{places, naming, named_back}

-- whatever the places of identifiers are named
module _ {P I : Type 0} (f : P → I) (zs : List (Rec P)) where
  declared-any : declared (deinline (map (map_rec f) zs)) ≡ declared (deinline zs)
  unfolding deinline
  declared-any = rw (deinline_from-map f 0 [] zs, declared-map f (deinline_from 0 [] zs))

  types-any : all_types (deinline (map (map_rec f) zs)) ≡ all_types (deinline zs)
  unfolding deinline
  types-any = rw (deinline_from-map f 0 [] zs, all_types-map f (deinline_from 0 [] zs))

module _ (xs ys : List (Rec Identifier)) (same_shape : shape xs ≡ shape ys) where
  abbrev zs : List (Rec ℕ)
  zs = places (shape xs)

  back_second : map (map_rec (naming [] ys)) zs ≡ ys
  back_second = rw same_shape (named_back [] ys)

  pub same-declared : declared (deinline xs) ≡ declared (deinline ys)
  same-declared =
      ap (λ (rs : List (Rec Identifier)). declared (deinline rs)) (sym (named_back [] xs))
      ∙ declared-any (naming [] xs) zs ∙ sym (declared-any (naming [] ys) zs)
      ∙ ap (λ (rs : List (Rec Identifier)). declared (deinline rs)) back_second

  pub same-types : all_types (deinline xs) ≡ all_types (deinline ys)
  same-types =
      ap (λ (rs : List (Rec Identifier)). all_types (deinline rs)) (sym (named_back [] xs))
      ∙ types-any (naming [] xs) zs ∙ sym (types-any (naming [] ys) zs)
      ∙ ap (λ (rs : List (Rec Identifier)). all_types (deinline rs)) back_second

module _ (s t : Bytes) (d : Renamed s t) where
  -- right after declaring
  pub same-declared-size : types_size (declared (deinline d.first)) ≡ types_size (declared (deinline d.second))
  same-declared-size = ap types_size (same-declared d.first d.second d.same_shape)

  -- and after adding
  pub same_size : (ts us : List FuncType) → all_types (deinline d.first) ≡ ok ts → all_types (deinline d.second) ≡ ok us → types_size ts ≡ types_size us
  same_size ts us e h = let g = same-types d.first d.second d.same_shape in let z : ts ≡ us = cc in ap types_size z
