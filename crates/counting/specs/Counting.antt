-- The counts of items, on the code's own values: what a field brings.
use Rattle.std.specs.Prelude.{ℕ, ◌+◌, min, true, List, [], ◌∷◌, ltb, set, if◌then◌else◌}
use Rattle.definition.specs.Syntax.{Space, funcs, tables, mems, globals, types, elems, datas, code}
use Rattle.definition.specs.Spaces.{count}
use Rattle.definition.specs.Read as Read
use Rattle.syntax.specs.Tokens.{space_of}
use Rattle.syntax.specs.declared.Space as Kind
use Rattle.syntax.specs.declared.Space.TheVariants as K
use Rattle.syntax.specs.Items.{count_of}
use Rattle.syntax.specs.declared.Seen.{Seen}
use Rattle.syntax.specs.declared.Extern.{Extern}
use Rattle.syntax.specs.declared.Extern.TheVariants as E
use Rattle.syntax.specs.declared.Own.{Own}
use Rattle.syntax.specs.declared.Own.TheVariants as O
use Rattle.syntax.specs.declared.Source.{Source}
use Rattle.syntax.specs.declared.Source.TheVariants as S
use Rattle.syntax.specs.declared.Field.{Field}
use Rattle.syntax.specs.declared.Field.TheVariants as F

-- one more, 256 at most
unfoldable pub up : ℕ → ℕ
up n = if ltb n 256 then n + 1 else n

unfoldable pub one_more : Seen → Space → Seen
one_more seen k = record { counts = set seen.counts (code k) (up (count_of seen k)); started = seen.started }

-- the space of an item
abbrev pub extern_space_of : Extern → Kind.Space
extern_space_of (E.Func t) = K.Funcs
extern_space_of (E.Table t) = K.Tables
extern_space_of (E.Mem l) = K.Mems
extern_space_of (E.Global t) = K.Globals

abbrev pub own_space_of : Own → Kind.Space
own_space_of (O.Func t ls) = K.Funcs
own_space_of (O.Table t) = K.Tables
own_space_of (O.Mem l) = K.Mems
own_space_of (O.Global t c) = K.Globals

abbrev pub source_space_of : Source → Kind.Space
source_space_of (S.Own o) = own_space_of o
source_space_of (S.Imported n x) = extern_space_of x
source_space_of (S.TableOf w xs) = K.Tables
source_space_of (S.MemOf w d) = K.Mems

abbrev pub extern_brings : Extern → Space
extern_brings x = space_of (extern_space_of x)

abbrev pub own_brings : Own → Space
own_brings o = space_of (own_space_of o)

abbrev pub source_brings : Seen → Source → Seen
source_brings seen (S.Own o) = one_more seen (own_brings o)
source_brings seen (S.Imported n x) = one_more seen (extern_brings x)
source_brings seen (S.TableOf w xs) = one_more (one_more seen elems) tables
source_brings seen (S.MemOf w d) = one_more (one_more seen datas) mems

abbrev pub start_seen : Seen → Seen
start_seen seen = record { counts = seen.counts; started = true }

abbrev pub field_seen : Seen → Field → Seen
field_seen seen (F.Type i ps rs) = one_more seen types
field_seen seen (F.Import n i x) = one_more seen (extern_brings x)
field_seen seen (F.Item i es x) = source_brings seen x
field_seen seen (F.Export n k x) = seen
field_seen seen (F.Start x) = start_seen seen
field_seen seen (F.Elem i m xs) = one_more seen elems
field_seen seen (F.Data i m d) = one_more seen datas

-- words 0 to 6 of the work area: how many items each index space has, 256 at most
abbrev pub capped : Read.Seen → Space → ℕ
capped seen k = min (count k seen.items) 256

unfoldable pub count_words : Read.Seen → List ℕ
count_words seen =
    capped seen funcs
    ∷ capped seen tables
    ∷ capped seen mems
    ∷ capped seen globals
    ∷ capped seen types
    ∷ capped seen elems
    ∷ capped seen datas
    ∷ []
