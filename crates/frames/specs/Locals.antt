-- The locals of a function in the work area: what was written, or that an identifier comes twice.
use Rattle.std.specs.Prelude.{Ok, Err}
use Rattle.syntax.specs.Refusals.{Resolved}
use Rattle.std.specs.Prelude.{ℕ, ◌+◌, ◌≤◌, ◌≡◌, Bool, true, false, List, [], ◌∷◌, ◌++◌, map, length, replicate}
use Rattle.std.proofs.Math.Option.{Option, none}
use Rattle.definition.specs.Basic.{ok, same_bytes, at}
use Rattle.definition.specs.Syntax.{Bytes, Identifier}
use Rattle.definition.specs.Token.{param}
use Rattle.definition.specs.Names.{Namespace, taken, distinct, param_count, distinct_locals}
use Rattle.syntax.specs.Refusals.{refusal, refused_by}
use Rattle.syntax.specs.declared.Fault.TheVariants as F
use Rattle.syntax.specs.declared.Refusal.{Refusal}
use Rattle.area.specs.Layout.{LOCALS}
use Rattle.syntax.specs.Tokens.{id_of}
use Rattle.syntax.specs.declared.Part.{Part}
use Rattle.typeuse.specs.Known.{Readable}
use Rattle.syntax.specs.TypeUses.{elements, list_of, use_of}
use Rattle.syntax.specs.declared.List as Code
use Rattle.syntax.specs.declared.TypeUse.{TypeUse}
use Rattle.name_table.specs.Area.{names}
use Rattle.area.specs.Kept.{Kept}
use Rattle.type_table.specs.Table.{types_in}
use Rattle.syntax.specs.declared.TypeNo.{TypeNo}
use Rattle.scope.specs.Scope.{scope_in, locals_in, FewLocals}
use Rattle.scope.specs.declared.Locals.{Locals}

-- a function's head: at most 64 parameters and 64 locals, and all of them can be read
pub record Head (s : Bytes) (t : TypeUse) (ls : Code.List) : Type 0 where
  pub few_params : length (use_of s t).params ≤ 64
  pub few_locals : length (list_of param s ls) ≤ 64
  pub params : Readable s t.params
  pub locals : Readable s ls

-- ## Identifiers

-- the identifiers of so many parameters or locals
unfoldable pub ids_at : Bytes → ℕ → ℕ → Namespace Identifier
ids_at s here n = map (λ p. p.id) (elements param s here n)

abbrev pub ids_of : Bytes → Code.List → Namespace Identifier
ids_of s l = ids_at s l.at l.count

-- the places of a type's parameters, where no inline type names them
unfoldable pub nameless : Bytes → List ℕ → TypeNo → Namespace Identifier
nameless s w n = replicate (param_count (at (types_in s w) n.0)) none

-- ## Entries

-- an identifier comes twice: refused by 13 at the function's record, which is also where it was first used
pub record Clash (t : Bool) (rec : ℕ) (q : Refusal) (w w' : List ℕ) : Type 0 where
  pub twice : t ≡ true
  pub is : q ≡ refusal F.NameTaken rec
  pub long : length w' ≡ length w

-- one entry more
pub record More (s w : List ℕ) (count : ℕ) (id : Option Identifier) (m : ℕ) (w' : List ℕ) : Type 0 where
  pub free : taken same_bytes id (names count s w LOCALS) ≡ false
  pub entries : names m s w' LOCALS ≡ names count s w LOCALS ++ (id ∷ [])
  pub one : m ≡ count + 1
  pub kept : Kept LOCALS w w'

unfoldable pub PutsOne : Bytes → List ℕ → ℕ → Part → ℕ → Resolved ℕ → List ℕ → Type 0
PutsOne s w count p rec (Ok m) w' = More s w count (id_of s p) m w'
PutsOne s w count p rec (Err q) w' = Clash (taken same_bytes (id_of s p) (names count s w LOCALS)) rec q w w'

-- the entries of a list more
pub record Mores (s w : List ℕ) (from : ℕ) (ids : Namespace Identifier) (m : ℕ) (w' : List ℕ) : Type 0 where
  pub free : distinct same_bytes (names from s w LOCALS) ids ≡ true
  pub entries : names m s w' LOCALS ≡ names from s w LOCALS ++ ids
  pub all : m ≡ from + length ids
  pub kept : Kept LOCALS w w'

-- an identifier of a list is there already, or comes twice in it
pub record Clashes (s w : List ℕ) (from : ℕ) (ids : Namespace Identifier) (rec : ℕ) (q : Refusal) (w' : List ℕ) : Type 0 where
  pub twice : distinct same_bytes (names from s w LOCALS) ids ≡ false
  pub is : q ≡ refusal F.NameTaken rec
  pub long : length w' ≡ length w

-- of so many locals from a place on
unfoldable pub PutsAll : Bytes → List ℕ → ℕ → ℕ → ℕ → ℕ → Resolved ℕ → List ℕ → Type 0
PutsAll s w from here n rec (Ok m) w' = Mores s w from (ids_at s here n) m w'
PutsAll s w from here n rec (Err q) w' = Clashes s w from (ids_at s here n) rec q w'

-- ## Locals

-- these are the locals, and no identifier comes twice
pub record Sets (s w : List ℕ) (rec : ℕ) (all : Namespace Identifier) (l : Locals) (w' : List ℕ) : Type 0 where
  pub distinct : distinct_locals (scope_in s w) rec all ≡ ok tt
  pub locals : locals_in s w' l ≡ all
  pub few : FewLocals l
  pub kept : Kept LOCALS w w'

-- they are refused
pub record Unset (s w : List ℕ) (rec : ℕ) (all : Namespace Identifier) (q : Refusal) (w' : List ℕ) : Type 0 where
  pub says : distinct_locals (scope_in s w) rec all ≡ refused_by q
  pub long : length w' ≡ length w

unfoldable pub SetsLocals : Bytes → List ℕ → ℕ → Namespace Identifier → Resolved Locals → List ℕ → Type 0
SetsLocals s w rec all (Ok l) w' = Sets s w rec all l w'
SetsLocals s w rec all (Err q) w' = Unset s w rec all q w'
