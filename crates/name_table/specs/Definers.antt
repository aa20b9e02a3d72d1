-- The records that defined the items of each index space, beside its table of names.
use Rattle.std.specs.Prelude.{ℕ, zero, suc, ◌+◌, ◌*◌, List, [], ◌∷◌, get_or, set, Option as Optional}
use Rattle.std.proofs.Math.Option.{Option, none, some}
use Rattle.definition.specs.Basic.{same_bytes}
use Rattle.definition.specs.Syntax.{Bytes, Space, code}
use Rattle.definition.specs.Names as Names
use Rattle.area.specs.Layout.{DEFINERS}
use Rattle.syntax.specs.Reads.{maybe, same}
use Rattle.syntax.specs.Tokens.{id_of}
use Rattle.syntax.specs.declared.Part.{Part}
use Rattle.name_table.specs.Area.{entry_words, names}
use Rattle.name_table.specs.Tables.{base, name_count}

-- where those of a space begin
unfoldable pub definers_base : Space → ℕ
definers_base k = DEFINERS + 256 * code k

-- so many records, the first at `at`
unfoldable pub definers_in : ℕ → List ℕ → ℕ → List ℕ
definers_in zero w at = []
definers_in (suc n) w at = get_or w at 0 ∷ definers_in n w (at + 1)

-- all of a space
unfoldable pub definers_of : Space → List ℕ → List ℕ
definers_of k w = definers_in (name_count k w) w (definers_base k)

-- the record that defined the first of so many items of a space that carries an identifier
unfoldable pub holder_in : ℕ → Space → Bytes → List ℕ → Part → Option ℕ
holder_in n k s w p = Names.holder same_bytes (id_of s p) (names n s w (base k)) (definers_in n w (definers_base k))

abbrev pub held_by : Optional ℕ → Option ℕ
held_by = maybe same

-- an item more after so many of its space: its name, and the record that defined it
unfoldable pub item_words : Bytes → List ℕ → Space → ℕ → Part → ℕ → List ℕ
item_words s w k n p r = set (entry_words s w (base k + 3 * n) p) (definers_base k + n) r
