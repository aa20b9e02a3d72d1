-- What the answers of the readers mean, and which readers of the definition belong to a kind.
use Rattle.syntax.specs.Reads.{Read, step}
use Rattle.std.specs.Prelude.{ℕ, false, not, [], ◌∷◌, ltb, get_or}
use Rattle.definition.specs.Syntax as Syntax
use Rattle.definition.specs.Syntax.{Bytes, Identifier, funcs, tables, mems, globals, code}
use Rattle.definition.specs.Reader.{Step, got, fault}
use Rattle.definition.specs.Token as Token
use Rattle.definition.specs.Records.{Room, Extern}
use Rattle.syntax.specs.Tokens.{part_of}
use Rattle.syntax.specs.CoreTypes.{limits_is, table_type_is, global_type_is}
use Rattle.syntax.specs.TypeUses.{list_of, use_of}
use Rattle.syntax.specs.Plain.{constant_at}
use Rattle.syntax.specs.declared.ImportName.{ImportName}
use Rattle.syntax.specs.declared.Kind.{Kind}
use Rattle.syntax.specs.declared.Kind.TheVariants as K
use Rattle.syntax.specs.declared.Extern as Code
use Rattle.syntax.specs.declared.Extern.TheVariants as E
use Rattle.syntax.specs.declared.Seen.{Seen}
use Rattle.syntax.specs.declared.Own.{Own}
use Rattle.syntax.specs.declared.Own.TheVariants as O
use Rattle.syntax.specs.declared.Source.{Source}
use Rattle.syntax.specs.declared.Source.TheVariants as S

-- ## What may still come

abbrev pub none_seen : Seen
none_seen = record { counts = 0 ∷ 0 ∷ 0 ∷ 0 ∷ 0 ∷ 0 ∷ 0 ∷ []; started = false }

abbrev pub count_of : Seen → Syntax.Space → ℕ
count_of seen k = get_or seen.counts (code k) 0

unfoldable pub room_of : Seen → Room
room_of seen = record { item = λ k. ltb (count_of seen k) 256; start = not seen.started }

-- ## Imports

abbrev pub name_of : Bytes → ImportName → Syntax.ImportName
name_of s n = record { module_name = part_of s n.«module»; item_name = part_of s n.item }

abbrev pub name_at : Bytes → Read ImportName → Step Syntax.ImportName
name_at s = step (name_of s)

-- the space of a kind's items, and how what is imported is read
abbrev pub kind_of : Kind → Syntax.Space
kind_of K.Func = funcs
kind_of K.Table = tables
kind_of K.Mem = mems
kind_of K.Global = globals

abbrev pub extern_is : Bytes → Code.Extern → Extern
extern_is s (E.Func t) = Syntax.func (use_of s t)
extern_is s (E.Table t) = Syntax.table (table_type_is t)
extern_is s (E.Mem l) = Syntax.mem (limits_is l)
extern_is s (E.Global t) = Syntax.global (global_type_is t)

abbrev pub extern_at : Bytes → Read Code.Extern → Step Extern
extern_at s = step (extern_is s)

-- ## Sources

abbrev pub own_of : Bytes → Own → Syntax.Own Identifier
own_of s (O.Func t ls) = Syntax.own_func (use_of s t) (list_of Token.param s ls)
own_of s (O.Table t) = Syntax.own_table (table_type_is t)
own_of s (O.Mem l) = Syntax.own_mem (limits_is l)
own_of s (O.Global t c) = Syntax.own_global (global_type_is t) (constant_at s c)

abbrev pub source_of : Bytes → Source → Syntax.Source Identifier
source_of s (S.Own o) = Syntax.own (own_of s o)
source_of s (S.Imported n x) = Syntax.imported (name_of s n) (extern_is s x)
source_of s (S.TableOf w xs) = Syntax.table_of w (list_of Token.present s xs)
source_of s (S.MemOf w d) = Syntax.mem_of w (part_of s d)

abbrev pub source_at : Bytes → Read Source → Step (Syntax.Source Identifier)
source_at s = step (source_of s)
