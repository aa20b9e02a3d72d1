-- What the walk over all fields leaves: the order of imports, the table of types and the number of each use at its record, and the names.
use Rattle.std.specs.Prelude.{Option as Optional, Ok, Err, Some, None}
use Rattle.syntax.specs.Refusals.{Resolved}
use Rattle.std.specs.Prelude.{ℕ, ◌≤◌, ◌≡◌, Bool, List, [], length, get_or, if◌then◌else◌}
use Rattle.std.proofs.Math.Option.{Option, none, some}
use Rattle.definition.specs.Basic.{Answer, ok, ◌>>=◌, same_bytes}
use Rattle.definition.specs.Syntax.{Bytes, Identifier, FuncType}
use Rattle.definition.specs.Read.{field_body}
use Rattle.definition.specs.Deinline.{Numbered, imports_from, import_order}
use Rattle.definition.specs.Types.{uses, intern, all_types}
use Rattle.definition.specs.Names.{Items, register}
use Rattle.definition.specs.Binary.{types_size}
use Rattle.syntax.specs.Refusals.{refusal, refused_by}
use Rattle.syntax.specs.declared.Fault.TheVariants as F
use Rattle.syntax.specs.declared.Refusal.{Refusal}
use Rattle.area.specs.Layout.{SIZE, TOTAL, TYPES}
use Rattle.syntax.specs.Fields.{field_of}
use Rattle.syntax.specs.declared.Field.{Field}
use Rattle.area.specs.Kept.{Kept}
use Rattle.type_table.specs.Table.{type_table, types_in, Indexed, Recalled}
use Rattle.walk.specs.Walk.{fields_ahead, fields_in, Ahead}
use Rattle.walk.specs.declared.Cursor.{Cursor}
use Rattle.import_order.specs.Order.{is_late, late_after}
use Rattle.import_order.specs.declared.Standing.{Standing}
use Rattle.interning.specs.Uses.{uses_field, end_after, Handled, Stopped}
use Rattle.registration.specs.Register.{brought, Puts, Tables}
use Rattle.survey.specs.declared.Ended.{Ended}
use Rattle.survey.specs.declared.Took.{Took}
use Rattle.survey.specs.declared.Took.TheVariants as T

-- the order of imports, over the whole stream, and then the types
unfoldable pub types_after_order : Numbered Identifier → Answer (List FuncType)
types_after_order fs = import_order fs >>= λ _. all_types fs

-- all types and names are in the work area, and beside the types the size of their section's content
pub record Stands (s w w' : List ℕ) : Type 0 where
  pub all : types_after_order (fields_in s) ≡ ok (types_in s w')
  pub recalled : Recalled w' (types_in s w') (uses (fields_in s))
  pub few : get_or w' TOTAL 0 ≤ 256
  pub size : get_or w' SIZE 0 ≡ types_size (types_in s w')
  pub items : Items Identifier
  pub says : register same_bytes [] (fields_in s) ≡ ok items
  pub tables : Tables s w' items
  pub kept : Kept TYPES w w'

-- the order, the types or, after them, the names were refused
pub record Falls (s w : List ℕ) (q : Refusal) (w' : List ℕ) : Type 0 where
  pub says : (types_after_order (fields_in s) >>= λ _. register same_bytes [] (fields_in s)) ≡ refused_by q
  pub long : length w' ≡ length w

unfoldable pub Surveys : Bytes → List ℕ → Resolved (Unit {0}) → List ℕ → Type 0
Surveys s w (Ok u) w' = Stands s w w'
Surveys s w (Err q) w' = Falls s w q w'

-- ## The order of imports

-- too late, or whether imports after a field are
abbrev pub lateness : Bool → Standing → Option Bool
lateness late x = if is_late late x then none else some (late_after late x)

abbrev pub fine_of : Optional Bool → Option Bool
fine_of None = none
fine_of (Some late) = some late

-- ## One field

-- its uses were handled, and then its items registered or refused
pub record Both (s w : List ℕ) (c : Cursor) (f : Field) (here k k' : ℕ) (b : Resolved (Unit {0})) (w' : List ℕ) : Type 0 where
  pub between : List ℕ
  pub used : Handled c.rec (end_after (field_body (field_of s f)) c.rec s here) s (uses_field c.rec (field_of s f) s here) w k between k'
  pub put : Puts s between c.seen c.rec (brought f) b w'

unfoldable pub Takes : Bytes → List ℕ → Cursor → Field → ℕ → ℕ → Took → List ℕ → Type 0
Takes s w c f here k (T.Types k') w' = Both s w c f here k k' (Ok tt) w'
Takes s w c f here k (T.Late r) w' = ⊥
Takes s w c f here k (T.Use q) w' = Stopped s (uses_field c.rec (field_of s f) s here) w k q w'
Takes s w c f here k (T.Name q k') w' = Both s w c f here k k' (Err q) w'

-- ## Where something was refused

-- the types and then the names: what is told unless an import comes too late
unfoldable pub types_then_names : Numbered Identifier → Answer (Items Identifier)
types_then_names fs = all_types fs >>= λ _. register same_bytes [] fs

-- a use was refused before a field
pub record UseRefused (s w : List ℕ) (c : Cursor) (late : Bool) (q : Refusal) : Type 0 where
  pub ahead : Ahead s w c
  pub order : import_order (fields_in s) ≡ imports_from late (fields_ahead c s)
  pub says : types_then_names (fields_in s) ≡ refused_by q

-- a name was, where so many types have come
pub record NameRefused (s w : List ℕ) (c : Cursor) (late : Bool) (k : ℕ) (q : Refusal) : Type 0 where
  pub ahead : Ahead s w c
  pub order : import_order (fields_in s) ≡ imports_from late (fields_ahead c s)
  pub indexed : Indexed s w k
  pub types : all_types (fields_in s) ≡ intern (type_table k s w TYPES) (uses (fields_ahead c s))
  pub says : register same_bytes [] (fields_in s) ≡ refused_by q

-- how the walk ended
unfoldable pub Reaches : Bytes → List ℕ → Took → Cursor → Bool → List ℕ → Type 0
Reaches s w (T.Types k) c late w' = Stands s w w'
Reaches s w (T.Late r) c late w' = Falls s w (refusal F.LateImport r) w'
Reaches s w (T.Use q) c late w' = UseRefused s w' c late q × Kept TYPES w w'
Reaches s w (T.Name q k) c late w' = NameRefused s w' c late k q × Kept TYPES w w'

-- so it is told
pub record Ends (q : Took) (c : Cursor) (u : Bool) (r : Ended) : Type 0 where
  pub how : r.how ≡ q
  pub next : r.next ≡ c
  pub late : r.late ≡ u

-- what all types come to
abbrev pub typed : Bytes → Resolved ℕ → List ℕ → Answer (List FuncType)
typed s (Ok k) w = ok (type_table k s w TYPES)
typed s (Err q) w = refused_by q

pub record Interns (s w : List ℕ) (r : Resolved ℕ) (w' : List ℕ) : Type 0 where
  pub says : all_types (fields_in s) ≡ typed s r w'
  pub kept : Kept TYPES w w'
