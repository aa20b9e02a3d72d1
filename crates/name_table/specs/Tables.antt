-- The table of each index space.
use Rattle.std.specs.Prelude.{ℕ, ◌+◌, ◌*◌, min, List, get_or}
use Rattle.definition.specs.Syntax.{Bytes, Identifier, Space, code}
use Rattle.definition.specs.Names.{Namespace}
use Rattle.area.specs.Layout.{NAMED, NAMES, TABLE}
use Rattle.name_table.specs.Area.{names}

-- where the table of a space begins
unfoldable pub base : Space → ℕ
base k = NAMES + TABLE * code k

-- how many names it has: the words from NAMED on say it, up to 256
abbrev pub name_count : Space → List ℕ → ℕ
name_count k w = min (get_or w (NAMED + code k) 0) 256

-- all of them
unfoldable pub table_of : Space → Bytes → List ℕ → Namespace Identifier
table_of k s w = names (name_count k w) s w (base k)
