-- Registration over the work area: what a field brings goes into the tables, item by item.
use Rattle.std.specs.Prelude.{Ok, Err}
use Rattle.syntax.specs.Refusals.{Resolved}
use Rattle.std.specs.Prelude.{ℕ, ◌<◌, ◌≡◌, List, [], ◌∷◌}
use Rattle.definition.specs.Basic.{Answer, ok, ◌>>=◌}
use Rattle.definition.specs.Syntax.{Bytes, Identifier, Space, tables, mems, types, elems, datas}
use Rattle.definition.specs.Names.{Namespace, Items, space, definers, unheld}
use Rattle.syntax.specs.Refusals.{refused_by}
use Rattle.area.specs.Layout.{NAMES}
use Rattle.syntax.specs.declared.Part.{Part}
use Rattle.syntax.specs.Items.{count_of}
use Rattle.syntax.specs.declared.Seen.{Seen}
use Rattle.syntax.specs.declared.Source.{Source}
use Rattle.syntax.specs.declared.Source.TheVariants as S
use Rattle.syntax.specs.declared.Field.{Field}
use Rattle.syntax.specs.declared.Field.TheVariants as F
use Rattle.counting.specs.Counting.{one_more, extern_brings, own_brings}
use Rattle.name_table.specs.Area.{names}
use Rattle.name_table.specs.Tables.{base, table_of}
use Rattle.name_table.specs.Definers.{definers_base, definers_in, definers_of, holder_in, item_words}
use Rattle.area.specs.Kept.{Kept}

-- ## The tables

-- the names of a space, where so many of its items have come
unfoldable pub table_at : Seen → Space → Bytes → List ℕ → Namespace Identifier
table_at seen k s w = names (count_of seen k) s w (base k)

-- and the records that defined them
unfoldable pub definers_at : Seen → Space → List ℕ → List ℕ
definers_at seen k w = definers_in (count_of seen k) w (definers_base k)

-- ## Items, one after the other

-- an item: its space and its identifier
abbrev pub Entry : Type 0
Entry = Space × Part

unfoldable pub register_in : Bytes → List ℕ → Seen → ℕ → List Entry → Answer (List ℕ)
register_in s w seen r [] = ok w
register_in s w seen r ((k, p) ∷ ps) =
    unheld r (holder_in (count_of seen k) k s w p) (item_words s w k (count_of seen k) p r) >>= λ w'. register_in s w' (one_more seen k) r ps

-- no identifier
abbrev pub nameless : Part
nameless = record { at = 0; len = 0 }

-- an inline table or memory brings its segment first
abbrev pub source_items : Part → Source → List Entry
source_items i (S.Own o) = (own_brings o, i) ∷ []
source_items i (S.Imported n x) = (extern_brings x, i) ∷ []
source_items i (S.TableOf w xs) = (elems, nameless) ∷ (tables, i) ∷ []
source_items i (S.MemOf w d) = (datas, nameless) ∷ (mems, i) ∷ []

abbrev pub brought : Field → List Entry
brought (F.Type i ps rs) = (types, i) ∷ []
brought (F.Import n i x) = (extern_brings x, i) ∷ []
brought (F.Item i es x) = source_items i x
brought (F.Export n k x) = []
brought (F.Start x) = []
brought (F.Elem i m xs) = (elems, i) ∷ []
brought (F.Data i m d) = (datas, i) ∷ []

-- the tables have room for them
unfoldable pub Fit : Seen → List Entry → Type 0
Fit seen [] = Unit {0}
Fit seen ((k, p) ∷ ps) = (count_of seen k < 256) × Fit (one_more seen k) ps

abbrev pub registered : Resolved (Unit {0}) → List ℕ → Answer (List ℕ)
registered (Ok u) w = ok w
registered (Err r) w = refused_by r

-- they were registered or refused, and the words below the tables are as they were
pub record Puts (s w : List ℕ) (seen : Seen) (r : ℕ) (ps : List Entry) (q : Resolved (Unit {0})) (w' : List ℕ) : Type 0 where
  pub says : register_in s w seen r ps ≡ registered q w'
  pub kept : Kept NAMES w w'

-- ## All items

-- the items that were registered stand in the tables, their names and the records that defined them
pub record Tables (s w : List ℕ) (xs : Items Identifier) : Type 0 where
  pub each : (k : Space) → space k xs ≡ table_of k s w
  pub made : (k : Space) → definers k xs ≡ definers_of k w
