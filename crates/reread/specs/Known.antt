-- What is known of a function's head once its field was read: its lists can be read again.
use Rattle.std.specs.Prelude.{List, Ok, Err}
use Rattle.std.proofs.Math.Option.{Option}
use Rattle.definition.specs.Syntax.{Bytes, Identifier, FieldRec, item_r}
use Rattle.definition.specs.Reader.{Reader, give, ◌>>=◌}
use Rattle.definition.specs.Records.{func_extern, import_form}
use Rattle.typeuse.specs.Known.{Readable}
use Rattle.syntax.specs.Reads.{Read}
use Rattle.syntax.specs.declared.Extern.{Extern}
use Rattle.syntax.specs.declared.Extern.TheVariants as E
use Rattle.syntax.specs.declared.Own.{Own}
use Rattle.syntax.specs.declared.Own.TheVariants as O
use Rattle.syntax.specs.declared.Source.{Source}
use Rattle.syntax.specs.declared.Source.TheVariants as S
use Rattle.syntax.specs.declared.Field.{Field}
use Rattle.syntax.specs.declared.Field.TheVariants as F

-- what follows the form byte of a function that is imported where it stands
unfoldable pub imported_item : Option Identifier → List Bytes → Reader (FieldRec Identifier)
imported_item i es = import_form func_extern >>= λ x. give (item_r i es x)

-- the parameters of an imported function
abbrev pub ReadableExtern : Bytes → Extern → Type 0
ReadableExtern s (E.Func t) = Readable s t.params
ReadableExtern s (E.Table t) = Unit {0}
ReadableExtern s (E.Mem l) = Unit {0}
ReadableExtern s (E.Global g) = Unit {0}

-- the parameters and the locals of an own function
abbrev pub ReadableOwn : Bytes → Own → Type 0
ReadableOwn s (O.Func t ls) = Readable s t.params × Readable s ls
ReadableOwn s (O.Table t) = Unit {0}
ReadableOwn s (O.Mem l) = Unit {0}
ReadableOwn s (O.Global t c) = Unit {0}

abbrev pub ReadableSource : Bytes → Source → Type 0
ReadableSource s (S.Own o) = ReadableOwn s o
ReadableSource s (S.Imported n x) = ReadableExtern s x
ReadableSource s (S.TableOf w xs) = Unit {0}
ReadableSource s (S.MemOf w d) = Unit {0}

abbrev pub ReadableHead : Bytes → Field → Type 0
ReadableHead s (F.Type i ps rs) = Unit {0}
ReadableHead s (F.Import n i x) = ReadableExtern s x
ReadableHead s (F.Item i es x) = ReadableSource s x
ReadableHead s (F.Export n k x) = Unit {0}
ReadableHead s (F.Start x) = Unit {0}
ReadableHead s (F.Elem i m xs) = Unit {0}
ReadableHead s (F.Data i m d) = Unit {0}

-- those of a field that was read
abbrev pub ReadableField : Bytes → Read Field → Type 0
ReadableField s (Ok (f, here)) = ReadableHead s f
ReadableField s (Err n) = Unit {0}
