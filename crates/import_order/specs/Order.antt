-- What a field is to the order of imports.
use Rattle.std.specs.Prelude.{Bool, true, false}
use Rattle.syntax.specs.declared.Source.{Source}
use Rattle.syntax.specs.declared.Source.TheVariants as S
use Rattle.syntax.specs.declared.Field.{Field}
use Rattle.syntax.specs.declared.Field.TheVariants as F
use Rattle.import_order.specs.declared.Standing.{Standing}
use Rattle.import_order.specs.declared.Standing.TheVariants as T

abbrev pub source_standing : Source → Standing
source_standing (S.Own o) = T.Own
source_standing (S.Imported n x) = T.Import
source_standing (S.TableOf w xs) = T.Own
source_standing (S.MemOf w d) = T.Own

abbrev pub standing : Field → Standing
standing (F.Type i ps rs) = T.Neither
standing (F.Import n i x) = T.Import
standing (F.Item i es x) = source_standing x
standing (F.Export n k x) = T.Neither
standing (F.Start x) = T.Neither
standing (F.Elem i m xs) = T.Neither
standing (F.Data i m d) = T.Neither

-- an import after an own item
abbrev pub is_late : Bool → Standing → Bool
is_late late T.Import = late
is_late late T.Own = false
is_late late T.Neither = false

-- has an own item come?
abbrev pub late_after : Bool → Standing → Bool
late_after late T.Import = late
late_after late T.Own = true
late_after late T.Neither = late
