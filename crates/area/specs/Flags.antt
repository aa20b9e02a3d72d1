-- Words of the work area that say yes or no: is the call strict (document 02, §8), and does some body name a data segment (§11)?
use Rattle.std.specs.Prelude.{ℕ, Bool, true, false, List, eqb, get_or, set}
use Rattle.area.specs.Layout.{STRICT, DATA_NAMED}

unfoldable pub flag_in : ℕ → List ℕ → Bool
flag_in at w = eqb (get_or w at 0) 1

abbrev pub flag_word : Bool → ℕ
flag_word true = 1
flag_word false = 0

unfoldable pub flag_put : ℕ → List ℕ → Bool → List ℕ
flag_put at w b = set w at (flag_word b)

abbrev pub strict_in : List ℕ → Bool
strict_in w = flag_in STRICT w

abbrev pub data_named_in : List ℕ → Bool
data_named_in w = flag_in DATA_NAMED w
