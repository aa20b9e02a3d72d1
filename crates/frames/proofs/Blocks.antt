-- A block that opens.
use Prim.Native.Nat.{ℕ, ◌+◌, ◌*◌, ◌≤◌, ◌<◌}
use mathlib.Core.Path.{◌≡◌}
use mathlib.Core.List.{List}
use lib.ListN.{length}
use native.Mathlib.Omega.{arith}
use Rattle.area.specs.Layout.{LABELS, WORDS}
use Rattle.syntax.specs.declared.Part.{Part}
use Rattle.name_table.specs.Area.{entry_words}
use Rattle.name_table.proofs.Tables.{words_kept}
use Rattle.scope.proofs.Frames.{labels_open}
use Rattle.frames.specs.Blocks.{Opened}

-- the entry of a label lies in the area
pub block_entry : (w : List ℕ) (k : ℕ) → WORDS ≤ length w → k < 128 → LABELS + 3 * k + 2 < length w
block_entry w k h l = omega arith

pub block_opened : (s w : List ℕ) (k : ℕ) (p : Part) (w' : List ℕ) → w' ≡ entry_words s w (LABELS + 3 * k) p → WORDS ≤ length w → k < 128 → Opened s w k p w'
block_opened s w k p w' e h l = record {
  labels = rw e (labels_open s w k p (omega arith));
  kept = rw e (words_kept s w (LABELS + 3 * k) p LABELS (omega arith));
}
