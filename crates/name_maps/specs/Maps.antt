-- What is put of a name map, and of a map of name maps: a place at a time.
use Rattle.std.specs.Prelude.{ℕ, ◌+◌, ◌≤◌, ◌≡◌, List, [], ◌∷◌, length}
use Rattle.definition.specs.Basic.{concat_map}
use Rattle.definition.specs.Syntax.{Bytes, Identifier, FuncType}
use Rattle.definition.specs.Token as Token
use Rattle.definition.specs.Types as Types
use Rattle.definition.specs.Types.{used_at}
use Rattle.definition.specs.Names.{Namespace, Scope, type_no}
use Rattle.emit.specs.Put.{Put}
use Rattle.syntax.specs.TypeUses.{list_of, use_of}
use Rattle.syntax.specs.declared.List as Code
use Rattle.syntax.specs.declared.TypeUse.{TypeUse}
use Rattle.syntax.specs.declared.Extern.{Extern}
use Rattle.syntax.specs.declared.Extern.TheVariants as X
use Rattle.syntax.specs.declared.Own.{Own}
use Rattle.syntax.specs.declared.Own.TheVariants as O
use Rattle.syntax.specs.declared.Source.{Source}
use Rattle.syntax.specs.declared.Source.TheVariants as S
use Rattle.syntax.specs.declared.Field.{Field}
use Rattle.syntax.specs.declared.Field.TheVariants as F
use Rattle.type_table.specs.Table.{Recalled}
use Rattle.definition.specs.NameSection.{named_from, locals_by, local_names_from, name_assoc, indirect_name_assoc}
use Rattle.name_maps.specs.declared.map.Reached.{Reached}
use Rattle.name_maps.specs.declared.functions.Function.{Function}
use Rattle.name_maps.specs.declared.functions.Function.TheVariants as N

-- ## Maps

-- the map begins, with the place of this number
abbrev pub first : ℕ → ℕ → Reached
first at n = record { at = at; number = n; count = 0 }

-- from `x` on so many places were passed, and of them these entries were put
pub record Adds {A : Type 0} (f : A → Bytes) (es : List A) (places : ℕ) (x : Reached) (old : Bytes) (r : Reached) (new : Bytes) : Type 0 where
  pub put : Put old x.at (concat_map f es) r.at new
  pub number : r.number ≡ x.number + places
  pub count : r.count ≡ x.count + length es

-- the names of places
abbrev pub Names : Namespace Identifier → Reached → Bytes → Reached → Bytes → Type 0
Names is x old r new = Adds name_assoc (named_from x.number is) (length is) x old r new

-- the names of functions' parameters and locals
abbrev pub LocalNames : List (Namespace Identifier) → Reached → Bytes → Reached → Bytes → Type 0
LocalNames ls x old r new = Adds indirect_name_assoc (local_names_from x.number ls) (length ls) x old r new

-- numbers up to `top`: the code counts on without an overflow
pub record Few (top : ℕ) (x : Reached) : Type 0 where
  pub low : x.number ≤ top
  pub fewer : x.count ≤ x.number

-- ## Functions

-- the function that a field brings
abbrev pub function_of_extern : Extern → Function
function_of_extern (X.Func t) = N.Imported
function_of_extern (X.Table t) = N.Nothing
function_of_extern (X.Mem l) = N.Nothing
function_of_extern (X.Global t) = N.Nothing

abbrev pub function_of_own : Own → Function
function_of_own (O.Func t ls) = N.Own t ls
function_of_own (O.Table t) = N.Nothing
function_of_own (O.Mem l) = N.Nothing
function_of_own (O.Global t c) = N.Nothing

abbrev pub function_of_source : Source → Function
function_of_source (S.Own o) = function_of_own o
function_of_source (S.Imported n x) = function_of_extern x
function_of_source (S.TableOf w xs) = N.Nothing
function_of_source (S.MemOf w d) = N.Nothing

abbrev pub function_of : Field → Function
function_of (F.Type i ps rs) = N.Nothing
function_of (F.Import n i x) = function_of_extern x
function_of (F.Item i es x) = function_of_source x
function_of (F.Export n k x) = N.Nothing
function_of (F.Start x) = N.Nothing
function_of (F.Elem i m xs) = N.Nothing
function_of (F.Data i m d) = N.Nothing

-- its parameters and locals
unfoldable pub own_locals : Scope Identifier → Bytes → ℕ → TypeUse → Code.List → Namespace Identifier
own_locals Γ s r t ls = locals_by Γ.all_types (use_of s t) (list_of Token.param s ls) (type_no Γ r (use_of s t))

abbrev pub brought_locals : Scope Identifier → Bytes → ℕ → Function → List (Namespace Identifier)
brought_locals Γ s r N.Nothing = []
brought_locals Γ s r N.Imported = [] ∷ []
brought_locals Γ s r (N.Own t ls) = own_locals Γ s r t ls ∷ []

-- the number of its type use is in the work area
abbrev pub RecalledOf : Bytes → List ℕ → List FuncType → ℕ → Function → Type 0
RecalledOf s w ts r N.Nothing = Unit {0}
RecalledOf s w ts r N.Imported = Unit {0}
RecalledOf s w ts r (N.Own t ls) = Recalled w ts (used_at r (Types.use_of (use_of s t)))
