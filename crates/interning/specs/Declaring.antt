-- What the pass makes of declared types.
use Rattle.std.specs.Prelude.{ℕ, ◌<◌, ◌≡◌, false, List, [], ◌∷◌, ◌++◌}
use Rattle.definition.specs.Syntax.{Bytes, FuncType}
use Rattle.definition.specs.Types.{declared}
use Rattle.area.specs.Layout.{TYPES}
use Rattle.syntax.specs.declared.List as Code
use Rattle.syntax.specs.declared.Field.{Field}
use Rattle.syntax.specs.declared.Field.TheVariants as F
use Rattle.area.specs.Kept.{Kept}
use Rattle.type_table.specs.Table.{signature_of, type_table, Indexed}
use Rattle.type_table.specs.declared.entry.Signature.{Signature}
use Rattle.walk.specs.Walk.{fields_in}

-- no identifiers stand before the parameters of a declared type
abbrev pub listed : Code.List → Code.List → Signature
listed ps rs = record { named = false; params = ps; results = rs }

-- what a field declares
abbrev pub declared_in : Bytes → Field → List FuncType
declared_in s (F.Type i ps rs) = signature_of s (listed ps rs) ∷ []
declared_in s (F.Import n i x) = []
declared_in s (F.Item i es x) = []
declared_in s (F.Export n k x) = []
declared_in s (F.Start x) = []
declared_in s (F.Elem i m xs) = []
declared_in s (F.Data i m d) = []

-- one more type may come
abbrev pub HasRoom : ℕ → Field → Type 0
HasRoom count (F.Type i ps rs) = count < 256
HasRoom count (F.Import n i x) = Unit {0}
HasRoom count (F.Item i es x) = Unit {0}
HasRoom count (F.Export n k x) = Unit {0}
HasRoom count (F.Start x) = Unit {0}
HasRoom count (F.Elem i m xs) = Unit {0}
HasRoom count (F.Data i m d) = Unit {0}

-- the types of a field were added to `count`
pub record Declares (s : Bytes) (w : List ℕ) (count : ℕ) (f : Field) (n : ℕ) (w' : List ℕ) : Type 0 where
  pub types : type_table n s w' TYPES ≡ type_table count s w TYPES ++ declared_in s f
  pub indexed : Indexed s w' n
  pub kept : Kept TYPES w w'

-- all declared types are in the table
pub record DeclaredAll (s : Bytes) (w : List ℕ) (n : ℕ) (w' : List ℕ) : Type 0 where
  pub types : type_table n s w' TYPES ≡ declared (fields_in s)
  pub indexed : Indexed s w' n
  pub kept : Kept TYPES w w'
