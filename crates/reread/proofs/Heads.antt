-- A field that brings no function has no lists that are read again.
use Rattle.std.specs.Prelude.{Ok, Err}
use mathlib.Core.Path.{◌≡◌, refl}
use Prim.Native.Nat.{ℕ}
use Rattle.definition.specs.Syntax.{Bytes, Identifier, FieldRec}
use Rattle.definition.specs.Reader.{Step, got}
use Rattle.definition.specs.Spaces.{source_space, extern_space, own_space}
use Rattle.syntax.specs.Reads.{Read}
use Rattle.syntax.specs.declared.Extern.TheVariants as E
use Rattle.syntax.specs.declared.Own.TheVariants as O
use Rattle.syntax.specs.declared.Source.TheVariants as S
use Rattle.reread.specs.Known.{ReadableHead, ReadableField}
use Rattle.syntax.specs.Fields.{field_of, field_at}
use Rattle.syntax.specs.declared.Field.{Field}
use Rattle.syntax.specs.declared.Field.TheVariants as F
use Rattle.reread.proofs.Gives.{NoFunc}

other-head : (s : Bytes) (f : Field) → NoFunc (field_of s f) → ReadableHead s f
unfolding source_space extern_space own_space
other-head s (F.Type i ps rs) h = tt
other-head s (F.Import n i (E.Func t)) h = absurd (h refl)
other-head s (F.Import n i (E.Table t)) h = tt
other-head s (F.Import n i (E.Mem l)) h = tt
other-head s (F.Import n i (E.Global g)) h = tt
other-head s (F.Item i es (S.Own (O.Func t ls))) h = absurd (h refl)
other-head s (F.Item i es (S.Own (O.Table t))) h = tt
other-head s (F.Item i es (S.Own (O.Mem l))) h = tt
other-head s (F.Item i es (S.Own (O.Global t c))) h = tt
other-head s (F.Item i es (S.Imported n (E.Func t))) h = absurd (h refl)
other-head s (F.Item i es (S.Imported n (E.Table t))) h = tt
other-head s (F.Item i es (S.Imported n (E.Mem l))) h = tt
other-head s (F.Item i es (S.Imported n (E.Global g))) h = tt
other-head s (F.Item i es (S.TableOf w xs)) h = tt
other-head s (F.Item i es (S.MemOf w d)) h = tt
other-head s (F.Export n k x) h = tt
other-head s (F.Start x) h = tt
other-head s (F.Elem i m xs) h = tt
other-head s (F.Data i m d) h = tt

-- an answer for what the definition reads as no function
pub other-field : (s : Bytes) (r : Read Field) (m : Step (FieldRec Identifier)) → m ≡ field_at s r → ((f : FieldRec Identifier) (q : ℕ) → m ≡ got f q → NoFunc f) → ReadableField s r
other-field s (Ok (f, q)) m e h = other-head s f (h (field_of s f) q e)
other-field s (Err n) m e h = tt
