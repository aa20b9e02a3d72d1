-- How long sections and the module are, by the size beside the types and the tally of the other entries.
use Rattle.std.specs.Prelude.{ℕ, zero, suc, ◌+◌, ◌-◌, ◌≤◌, ◌≡◌, Bool, List, [], ◌∷◌, ◌++◌, map, eqb, length, get_or, if◌then◌else◌}
use Rattle.definition.specs.Syntax.{Bytes}
use Rattle.definition.specs.Binary.{u, sized, func_type, in_section, joined, section_of, section}
use Rattle.emit.specs.Put.{past}
use Rattle.type_table.specs.Table.{types_in}
use Rattle.deinline.specs.Entry.{Entries}
use Rattle.kept.specs.Sections.{TYPE, IMPORT, START, CODE, DATAS, DATA_COUNT, SECTIONS}
use Rattle.kept.specs.Tally.{tallies, no_tally}
use Rattle.kept.specs.declared.tally.Tally.{Tally}
use Rattle.sections.specs.Write.{Writable, Held, all_entries}

-- no section has more entries than bytes
pub record Good (es : Entries) : Type 0 where
  pub each : (k : ℕ) → length (in_section k es) ≤ length (joined (in_section k es))

-- the entries of a module, and their tally
pub record Counted (t : Tally) (es : Entries) : Type 0 where
  pub tally : t ≡ tallies no_tally es
  pub good : Good es

-- what the writer of sections has: the entries resolve once more, their bytes are kept, and they are tallied
pub record Supplied (t : Tally) (kept s w : List ℕ) : Type 0 where
  pub writable : Writable s w
  pub held : Held kept (all_entries s w)
  pub counted : Counted t (all_entries s w)

-- a section's content: its count, but for the start section, and its entries
unfoldable pub content_len : ℕ → ℕ → ℕ → ℕ
content_len k size count = if eqb k START then size else past (length (u count)) size

-- the number of the section and the length before its content
unfoldable pub sized_len : ℕ → ℕ
sized_len n = past (past 1 (length (u n))) n

-- an empty section is omitted
unfoldable pub section_len : Tally → ℕ → ℕ
section_len t k =
    if eqb (get_or t.counts k 0) 0 then 0 else
    sized_len (content_len k (get_or t.sizes k 0) (get_or t.counts k 0))

-- `left` sections from k on, after `o` bytes
unfoldable pub lens_from : ℕ → ℕ → ℕ → Tally → ℕ
lens_from zero k o t = o
lens_from (suc left) k o t = lens_from left (k + 1) (past o (section_len t k)) t

-- the data count section, where a data segment is named: it holds how many there are
unfoldable pub count_len : Bool → Tally → ℕ
count_len named t = if named then sized_len (length (u (get_or t.counts DATAS 0))) else 0

-- the section of types, whose content has this size
unfoldable pub types_len : ℕ → ℕ
types_len size = if eqb size 0 then 0 else sized_len size

-- the preamble, types, sections 2 to 9, the data count, code and data
unfoldable pub module_len : ℕ → Bool → Tally → ℕ
module_len size named t = lens_from (SECTIONS - CODE) CODE (past (lens_from (CODE - IMPORT) IMPORT (past 8 (types_len size)) t) (count_len named t)) t

-- the bytes of `left` sections from k on
unfoldable pub sections_from : ℕ → ℕ → Entries → Bytes
sections_from zero k es = []
sections_from (suc left) k es = section es k ++ sections_from left (k + 1) es

unfoldable pub count_section : Bool → ℕ → Bytes
count_section named n = if named then DATA_COUNT ∷ sized (u n) else []

-- the sections after that of types
unfoldable pub all_sections : Bool → Entries → Bytes
all_sections named es = sections_from (CODE - IMPORT) IMPORT es ++ count_section named (length (in_section DATAS es)) ++ sections_from (SECTIONS - CODE) CODE es

-- the section of the types of the work area
unfoldable pub type_section : List ℕ → List ℕ → Bytes
type_section s w = section_of TYPE (map func_type (types_in s w))
