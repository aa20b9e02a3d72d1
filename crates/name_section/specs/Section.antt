-- The name section, by the tally of its subsections' entries.
use Rattle.std.specs.Prelude.{ℕ, ◌≡◌, List, ◌∷◌, map, eqb, length, get_or, if◌then◌else◌}
use Rattle.definition.specs.Syntax.{Bytes, funcs}
use Rattle.definition.specs.Binary.{u, joined}
use Rattle.emit.specs.Put.{past}
use Rattle.walk.specs.Walk.{fields_in}
use Rattle.scope.specs.Scope.{scope_in}
use Rattle.kept.specs.declared.tally.Tally.{Tally}
use Rattle.module.specs.Length.{content_len, sized_len, section_len}
use Rattle.definition.specs.NameSection.{named_from, functions, local_names_from, name_assoc, indirect_name_assoc, name_section}
use Rattle.name_maps.specs.declared.map.Reached.{Reached}

-- the entries of the subsections
unfoldable pub function_entries : List ℕ → List ℕ → List Bytes
function_entries s w = map name_assoc (named_from 0 ((scope_in s w).names funcs))

unfoldable pub local_entries : List ℕ → List ℕ → List Bytes
local_entries s w = map indirect_name_assoc (local_names_from 0 (functions (scope_in s w) (fields_in s)))

-- a tally has the bytes and the number of subsection k's entries
pub record Measured (t : Tally) (k : ℕ) (es : List Bytes) : Type 0 where
  pub size : get_or t.sizes k 0 ≡ past 0 (length (joined es))
  pub count : get_or t.counts k 0 ≡ past 0 (length es)

-- entries that were put from 0 on, on an empty part
pub record SizeOf (es : List Bytes) (r : Reached) : Type 0 where
  pub size : r.at ≡ past 0 (length (joined es))
  pub count : r.count ≡ length es

-- the tally of a module's names
pub record NameTally (s w : List ℕ) (t : Tally) : Type 0 where
  pub functions : Measured t 1 (function_entries s w)
  pub locals : Measured t 2 (local_entries s w)

-- a subsection's number and the length of its content
unfoldable pub length_of : Tally → ℕ → Bytes
length_of t k = k ∷ u (content_len k (get_or t.sizes k 0) (get_or t.counts k 0))

-- how long both subsections are
unfoldable pub subsections_len : Tally → ℕ
subsections_len t = past (section_len t 1) (section_len t 2)

-- the section's own name before them, with its length, is 5 bytes; an empty section is omitted
unfoldable pub name_len : Tally → ℕ
name_len t = if eqb (subsections_len t) 0 then 0 else sized_len (past 5 (subsections_len t))

-- the bytes of the section
unfoldable pub names_in : List ℕ → List ℕ → Bytes
names_in s w = name_section (scope_in s w) (fields_in s)
