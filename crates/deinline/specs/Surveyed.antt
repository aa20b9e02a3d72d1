-- What the passes before resolving have left: a stream that was read and surveyed, and the work area.
use Rattle.std.specs.Prelude.{ℕ, ◌≤◌, List, length}
use Rattle.definition.specs.Types.{uses}
use Rattle.area.specs.Layout.{BYTES, WORDS}
use Rattle.type_table.specs.Table.{types_in, Recalled}
use Rattle.walk.specs.Walk.{Ahead, begin, fields_in}

pub record Surveyed (s w : List ℕ) : Type 0 where
  pub stream : length s ≤ BYTES
  pub room : WORDS ≤ length w
  pub ahead : Ahead s w begin
  pub recalled : Recalled w (types_in s w) (uses (fields_in s))
