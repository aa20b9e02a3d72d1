-- What is written of an answer's entries: those of one section.
use Rattle.std.specs.Prelude.{ℕ, ◌≡◌, []}
use Rattle.definition.specs.Basic.{Answer, ok, fails}
use Rattle.definition.specs.Syntax.{Bytes}
use Rattle.definition.specs.Binary.{in_section, joined}
use Rattle.deinline.specs.Entry.{Entries}

-- entries that are not refused
pub record Fine (a : Answer Entries) : Type 0 where
  pub entries : Entries
  pub is : a ≡ ok entries

abbrev pub kept : Answer Entries → Entries
kept (ok es) = es
kept (fails q) = []

-- the bytes of section k among them
unfoldable pub bytes_in : ℕ → Answer Entries → Bytes
bytes_in k a = joined (in_section k (kept a))
