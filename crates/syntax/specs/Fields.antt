-- What the answers of the readers mean.
use Rattle.syntax.specs.Reads.{Read, step}
use Rattle.definition.specs.Syntax as Syntax
use Rattle.definition.specs.Syntax.{Bytes, Identifier, FieldRec, type_r, import_r, item_r, export_r, start_r, elem_r, data_r}
use Rattle.definition.specs.Reader.{Step, got, fault}
use Rattle.definition.specs.Token as Token
use Rattle.syntax.specs.Tokens.{part_of, id_of, space_of, index_of}
use Rattle.syntax.specs.TypeUses.{list_of}
use Rattle.syntax.specs.Plain.{constant_at}
use Rattle.syntax.specs.Items.{name_of, extern_is, source_of}
use Rattle.syntax.specs.declared.Space.{Space}
use Rattle.syntax.specs.declared.Mode.{Mode}
use Rattle.syntax.specs.declared.Mode.TheVariants as M
use Rattle.syntax.specs.declared.Field.{Field}
use Rattle.syntax.specs.declared.Field.TheVariants as F

abbrev pub space_at : Read Space → Step Syntax.Space
space_at = step space_of

abbrev pub mode_of : Bytes → Mode → Syntax.Mode (Syntax.Index Identifier) (Syntax.Plain Identifier)
mode_of s M.Passive = Syntax.passive
mode_of s (M.Active x c) = Syntax.active (index_of s x) (constant_at s c)

abbrev pub mode_at : Bytes → Read Mode → Step (Syntax.Mode (Syntax.Index Identifier) (Syntax.Plain Identifier))
mode_at s = step (mode_of s)

abbrev pub field_of : Bytes → Field → FieldRec Identifier
field_of s (F.Type i ps rs) = type_r (id_of s i) (record { params = list_of Token.val_type s ps; results = list_of Token.val_type s rs })
field_of s (F.Import n i x) = import_r (name_of s n) (id_of s i) (extern_is s x)
field_of s (F.Item i es x) = item_r (id_of s i) (list_of Token.string s es) (source_of s x)
field_of s (F.Export n k x) = export_r (part_of s n) (space_of k) (index_of s x)
field_of s (F.Start x) = start_r (index_of s x)
field_of s (F.Elem i m xs) = elem_r (id_of s i) (mode_of s m) (list_of Token.present s xs)
field_of s (F.Data i m d) = data_r (id_of s i) (mode_of s m) (part_of s d)

abbrev pub field_at : Bytes → Read Field → Step (FieldRec Identifier)
field_at s = step (field_of s)
