-- What the answers of the readers mean: places of a stream as the definition's values.
use Rattle.std.specs.Prelude.{Ok, Err}
use Rattle.syntax.specs.Refusals as Refusals
use Rattle.syntax.specs.Reads.{Read, Pass, step, same}
use Rattle.std.specs.Prelude.{ℕ, eqb, take, drop, if◌then◌else◌}
use Rattle.std.proofs.Math.Option.{Option, none, some}
use Rattle.definition.specs.Syntax as Syntax
use Rattle.definition.specs.Syntax.{Bytes, Identifier, absent, number, named}
use Rattle.definition.specs.Reader.{Step, got, fault}
use Rattle.syntax.specs.declared.Part.{Part}
use Rattle.syntax.specs.declared.Space.{Space}
use Rattle.syntax.specs.declared.Space.TheVariants as K
use Rattle.syntax.specs.declared.Index.{Index}
use Rattle.syntax.specs.declared.Index.TheVariants as X

abbrev pub byte_at : Read ℕ → Step ℕ
byte_at = step same

abbrev pub skip : Pass → Step (Unit {0})
skip (Ok next) = got tt next
skip (Err e) = fault (Refusals.number e)

-- the bytes of a part
unfoldable pub part : Bytes → ℕ → ℕ → Bytes
part s at len = take len (drop at s)

abbrev pub part_of : Bytes → Part → Bytes
part_of s p = part s p.at p.len

abbrev pub part_at : Bytes → Read Part → Step Bytes
part_at s = step (part_of s)

-- an identifier: a part of length 0 is none
abbrev pub id_of : Bytes → Part → Option Identifier
id_of s p = if eqb p.len 0 then none else some (part_of s p)

abbrev pub id_at : Bytes → Read Part → Step (Option Identifier)
id_at s = step (id_of s)

abbrev pub space_of : Space → Syntax.Space
space_of K.Funcs = Syntax.funcs
space_of K.Tables = Syntax.tables
space_of K.Mems = Syntax.mems
space_of K.Globals = Syntax.globals
space_of K.Types = Syntax.types
space_of K.Elems = Syntax.elems
space_of K.Datas = Syntax.datas

abbrev pub index_of : Bytes → Index → Syntax.Index Identifier
index_of s X.Absent = absent
index_of s (X.Number n) = number n
index_of s (X.Named p) = named (part_of s p)

abbrev pub index_at : Bytes → Read Index → Step (Syntax.Index Identifier)
index_at s = step (index_of s)
