-- Writing the entries of one section, and the module.
use Rattle.std.specs.Prelude.{ℕ, ◌≤◌, ◌<◌, ◌≡◌, List, [], ◌++◌, map, length, drop, get_or}
use Rattle.definition.specs.Basic.{Answer, ok, fails}
use Rattle.definition.specs.Syntax.{Bytes, Item, type_i}
use Rattle.definition.specs.Names.{resolve_all}
use Rattle.definition.specs.Types.{declared, all_types}
use Rattle.definition.specs.Binary.{in_section, joined, types_size}
use Rattle.emit.specs.Put.{Put, past}
use Rattle.area.specs.Layout.{BYTES, LOCALS, SIZE, WORDS}
use Rattle.area.specs.Kept.{Kept}
use Rattle.type_table.specs.Table.{types_in, Recalled}
use Rattle.walk.specs.Walk.{fields_in}
use Rattle.scope.specs.Scope.{scope_in}
use Rattle.deinline.specs.Entry.{Entries, uses_of, HeadIn, WholeIn, entry_in, entries_of, Three}
use Rattle.deinline.specs.Surveyed.{Surveyed}
use Rattle.syntax.specs.declared.Entry.{Entry}
use Rattle.kept.specs.Tally.{no_tally, Keeps}
use Rattle.kept.specs.Content.{Fine, kept}

-- bytes were put, and what the passes before have left in the work area stayed
pub record Writes (bs old : Bytes) (at r : ℕ) (new : Bytes) (w w' : List ℕ) : Type 0 where
  pub put : Put old at bs r new
  pub area : Kept LOCALS w w'

-- an entry that is not refused, and all that resolving it needs
pub record Emittable (s w : List ℕ) (r : ℕ) (e : Entry) : Type 0 where
  pub stream : length s ≤ BYTES
  pub room : WORDS ≤ length w
  pub below : r < 4096
  pub head : HeadIn s e
  pub whole : WholeIn s r e
  pub recalled : Recalled w (types_in s w) (uses_of s r e)
  pub fine : Fine (entry_in (scope_in s w) s r e)

-- the same for the entries of a field
pub record EmittableThree (s w : List ℕ) (r : ℕ) (x : Three) : Type 0 where
  pub first : Emittable s w r x.first
  pub second : Emittable s w r x.second
  pub third : Emittable s w r x.third

-- the table has all types, and the size beside them is that of their section's content
pub record Typed (s w : List ℕ) : Type 0 where
  pub all : all_types (fields_in s) ≡ ok (types_in s w)
  pub size : get_or w SIZE 0 ≡ types_size (types_in s w)

-- all fields, and all types
pub record Writable (s w : List ℕ) : Type 0 where
  pub left : Surveyed s w
  pub typed : Typed s w
  pub fine : Fine (entries_of (scope_in s w) (fields_in s))

-- the entries of all fields, in which no type has one
unfoldable pub all_entries : List ℕ → List ℕ → Entries
all_entries s w = kept (entries_of (scope_in s w) (fields_in s))

-- the kept bytes are those of the entries, whatever there was before
pub record Held (new : Bytes) (es : Entries) : Type 0 where
  pub old : Bytes
  pub keeps : Keeps old no_tally es new

-- the number of entries of section k, of which none is empty
pub record Counts (n k : ℕ) (es : Entries) : Type 0 where
  pub number : n ≡ past 0 (length (in_section k es))
  pub few : length (in_section k es) ≤ length (joined (in_section k es))

-- what the fields resolve to
abbrev pub kept_items : Answer (List Item) → List Item
kept_items (ok is) = is
kept_items (fails q) = []

-- the items of the module: the added types come last
unfoldable pub module_items : List ℕ → List ℕ → List Item
module_items s w = kept_items (resolve_all (scope_in s w) (fields_in s)) ++ map type_i (drop (length (declared (fields_in s))) (types_in s w))
