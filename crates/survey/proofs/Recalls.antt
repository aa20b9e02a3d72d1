-- Laws of the numbers that interning left at the records of uses.
use Prim.Native.Nat.{ℕ, ◌+◌, ◌≤◌}
use mathlib.Core.Path.{sym, ◌∙◌, ap}
use mathlib.Core.List.{List, [], ◌∷◌}
use lib.ListN.{length}
use native.Mathlib.Omega.{arith}
use Rattle.definition.specs.Basic.{some_or}
use Rattle.definition.specs.Syntax.{FuncType}
use Rattle.definition.specs.Types.{Uses, type_number}
use Rattle.area.specs.Layout.{TOTAL, USES}
use Rattle.area.specs.Kept.{Kept}
use Rattle.area.proofs.Kept.{kept_word}
use Rattle.interning.specs.Uses.{Known}
use Rattle.type_table.specs.Table.{Recalled}

-- what is known of each use
pub known-recalled : (w : List ℕ) (ts : List FuncType) (us : Uses) → Known 4096 w ts us → Recalled w ts us
unfolding Known Recalled type_number
known-recalled w ts [] x = tt
known-recalled w ts ((r, t) ∷ us) x = (x.0, sym (ap (some_or (length ts)) x.1), known-recalled w ts us x.2)

-- words after them do not matter
pub recalled-kept : (n : ℕ) {w w' : List ℕ} (ts : List FuncType) (us : Uses) → TOTAL ≤ n → Kept n w w' → Recalled w ts us → Recalled w' ts us
unfolding Recalled
recalled-kept n ts [] h k x = tt
recalled-kept n {w} {w'} ts ((r, t) ∷ us) h k x =
    let l = x.0 in
    (l, kept_word k (USES + r) (omega arith) ∙ x.1, recalled-kept n {w = w} {w' = w'} ts us h k x.2)
