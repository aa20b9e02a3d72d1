-- That there is room for an item, and for the one after it.
use Prim.Native.Nat.{◌<◌}
use mathlib.Core.Path.{◌≡◌}
use mathlib.Core.List.{List, [], ◌∷◌}
use Rattle.definition.specs.Syntax.{Space}
use Rattle.syntax.specs.declared.Part.{Part}
use Rattle.syntax.specs.Items.{count_of}
use Rattle.syntax.specs.declared.Seen.{Seen}
use Rattle.counting.specs.Counting.{one_more}
use Rattle.registration.specs.Register.{Entry, Fit}

-- ## Room for what a field brings

module _ (seen : Seen) where
  pub fit_first : (j : Space) (a : Part) (ps : List Entry) → Fit seen ((j, a) ∷ ps) → count_of seen j < 256
  unfolding Fit
  fit_first j a ps h = h.0

  pub fit_second : (j k : Space) (a b : Part) → Fit seen ((j, a) ∷ (k, b) ∷ []) → (m : Seen) → m ≡ one_more seen j → count_of m k < 256
  unfolding Fit
  fit_second j k a b h m e = rw e h.1.0

pub ruleset fits = (fit_first, fit_second)
