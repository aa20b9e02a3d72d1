-- The labels of the open blocks in the work area.
use Rattle.std.specs.Prelude.{ℕ, ◌+◌, ◌≡◌, List, ◌∷◌}
use Rattle.area.specs.Layout.{LABELS}
use Rattle.syntax.specs.Tokens.{id_of}
use Rattle.syntax.specs.declared.Part.{Part}
use Rattle.area.specs.Kept.{Kept}
use Rattle.scope.specs.Scope.{labels_in}

-- one block more is open
pub record Opened (s w : List ℕ) (k : ℕ) (label : Part) (w' : List ℕ) : Type 0 where
  pub labels : labels_in s w' (k + 1) ≡ id_of s label ∷ labels_in s w k
  pub kept : Kept LABELS w w'
