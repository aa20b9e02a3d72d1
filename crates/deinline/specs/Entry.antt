-- What a field puts into the sections, entry by entry.
use Rattle.std.specs.Prelude.{ℕ, Option, Some, None, ◌+◌, ◌-◌, ◌≡◌, true, List, [], ◌∷◌, ◌++◌, map, length}
use Rattle.std.proofs.Math.Option.{none}
use Rattle.definition.specs.Basic.{Answer, ok, fails, ◌>>=◌, concat_map}
use Rattle.definition.specs.Syntax as Syntax
use Rattle.definition.specs.Syntax.{Bytes, Identifier, Space, tables, mems, own_index, active}
use Rattle.definition.specs.Syntax.{Item, type_i, import_i, func_i, table_i, mem_i, global_i, export_i, start_i, elem_i, data_i}
use Rattle.definition.specs.Token as Token
use Rattle.definition.specs.Deinline.{Numbered, exactly, pages, zero_offset}
use Rattle.definition.specs.Types as Types
use Rattle.definition.specs.Types.{Uses, used_at}
use Rattle.definition.specs.Names.{Scope, type_no, resolve, resolve_all}
use Rattle.definition.specs.Binary.{u, limits, table_type, entries}
use Rattle.syntax.specs.Tokens.{part_of, index_of, space_of}
use Rattle.syntax.specs.CoreTypes.{limits_is, table_type_is, global_type_is}
use Rattle.syntax.specs.TypeUses.{list_of, use_of}
use Rattle.syntax.specs.declared.List as Code
use Rattle.syntax.specs.declared.TypeUse.{TypeUse}
use Rattle.syntax.specs.Plain.{constant_at}
use Rattle.syntax.specs.Items.{count_of, name_of, extern_is}
use Rattle.syntax.specs.declared.Seen.{Seen}
use Rattle.syntax.specs.declared.Own.{Own}
use Rattle.syntax.specs.declared.Own.TheVariants as O
use Rattle.syntax.specs.declared.Source.{Source}
use Rattle.syntax.specs.declared.Source.TheVariants as S
use Rattle.syntax.specs.declared.Space as Kind
use Rattle.syntax.specs.Fields.{mode_of}
use Rattle.syntax.specs.declared.Field.{Field}
use Rattle.syntax.specs.declared.Field.TheVariants as F
use Rattle.instr.specs.Bodies.{body_from}
use Rattle.instr.specs.Functions.{func_field}
use Rattle.frames.specs.Locals.{Head}
use Rattle.import_export.specs.Entry.{entry_of, export_entries}
use Rattle.binary.specs.Code.{code_of}
use Rattle.counting.specs.Counting.{source_space_of}
use Rattle.syntax.specs.declared.Entry.{Entry}
use Rattle.syntax.specs.declared.Entry.TheVariants as E

abbrev pub section_no : Entry → ℕ
section_no E.Nothing = 0
section_no (E.Import n x) = 2
section_no (E.Func t) = 3
section_no (E.Table t) = 4
section_no (E.InlineTable w xs) = 4
section_no (E.Mem l) = 5
section_no (E.InlineMem w d) = 5
section_no (E.Global t c) = 6
section_no (E.Export n k x) = 7
section_no (E.Exports es k n) = 7
section_no (E.Start x) = 8
section_no (E.Elem m xs) = 9
section_no (E.InlineElem w n xs) = 9
section_no (E.Code t ls here) = 10
section_no (E.Data m d) = 11
section_no (E.InlineData w n d) = 11

-- ## What the definition makes of an entry

-- the bytes of what was resolved, as the only entry
unfoldable pub one_of : {A : Type 0} → (A → Bytes) → Answer A → Answer (List Bytes)
one_of bytes (ok a) = ok (bytes a ∷ [])
one_of bytes (fails q) = fails q

-- a function's type
unfoldable pub type_bytes : Syntax.TypeNo → Bytes
type_bytes n = u n.type_no

unfoldable pub answer_of : Scope Identifier → Bytes → ℕ → Entry → Answer (List Bytes)
answer_of Γ s r E.Nothing = ok []
answer_of Γ s r (E.Import n x) = one_of entry_of (resolve Γ r (Syntax.import_f (name_of s n) none (extern_is s x)))
answer_of Γ s r (E.Func t) = one_of type_bytes (type_no Γ r (use_of s t))
answer_of Γ s r (E.Table t) = ok (table_type (table_type_is t) ∷ [])
answer_of Γ s r (E.InlineTable w xs) = ok (table_type (record { element = 0x70; limits = exactly w (length (list_of Token.present s xs)) }) ∷ [])
answer_of Γ s r (E.Mem l) = ok (limits (limits_is l) ∷ [])
answer_of Γ s r (E.InlineMem w d) = ok (limits (exactly w (pages (length (part_of s d)))) ∷ [])
answer_of Γ s r (E.Global t c) = one_of entry_of (resolve Γ r (Syntax.own_f none (Syntax.own_global (global_type_is t) (constant_at s c)) []))
answer_of Γ s r (E.Export n k x) = one_of entry_of (resolve Γ r (Syntax.export_f (part_of s n) (space_of k) (index_of s x)))
answer_of Γ s r (E.Exports es k n) = ok (export_entries (space_of k) n (list_of Token.string s es))
answer_of Γ s r (E.Start x) = one_of entry_of (resolve Γ r (Syntax.start_f (index_of s x)))
answer_of Γ s r (E.Elem m xs) = one_of entry_of (resolve Γ r (Syntax.elem_f none (mode_of s m) (list_of Token.present s xs)))
answer_of Γ s r (E.InlineElem w n xs) = one_of entry_of (resolve Γ r (Syntax.elem_f none (active (own_index n) (zero_offset w)) (list_of Token.present s xs)))
answer_of Γ s r (E.Code t ls here) = one_of code_of (resolve Γ r (func_field s r t ls here))
answer_of Γ s r (E.Data m d) = one_of entry_of (resolve Γ r (Syntax.data_f none (mode_of s m) (part_of s d)))
answer_of Γ s r (E.InlineData w n d) = one_of entry_of (resolve Γ r (Syntax.data_f none (active (own_index n) (zero_offset w)) (part_of s d)))

-- the type uses that it resolves
unfoldable pub uses_of : Bytes → ℕ → Entry → Uses
uses_of s r E.Nothing = []
uses_of s r (E.Import n x) = used_at r (Types.extern_uses (extern_is s x))
uses_of s r (E.Func t) = used_at r (Types.use_of (use_of s t))
uses_of s r (E.Table t) = []
uses_of s r (E.InlineTable w xs) = []
uses_of s r (E.Mem l) = []
uses_of s r (E.InlineMem w d) = []
uses_of s r (E.Global t c) = []
uses_of s r (E.Export n k x) = []
uses_of s r (E.Exports es k n) = []
uses_of s r (E.Start x) = []
uses_of s r (E.Elem m xs) = []
uses_of s r (E.InlineElem w n xs) = []
uses_of s r (E.Code t ls here) = used_at r (Types.use_of (use_of s t)) ++ Types.body_uses (body_from 0 (r + 1) s here).body
uses_of s r (E.Data m d) = []
uses_of s r (E.InlineData w n d) = []

-- what holds of the parts of a code entry; nothing is said of other entries
abbrev pub OnCode : (TypeUse → Code.List → ℕ → Type 0) → Entry → Type 0
OnCode p E.Nothing = Unit {0}
OnCode p (E.Import n x) = Unit {0}
OnCode p (E.Func t) = Unit {0}
OnCode p (E.Table t) = Unit {0}
OnCode p (E.InlineTable w xs) = Unit {0}
OnCode p (E.Mem l) = Unit {0}
OnCode p (E.InlineMem w d) = Unit {0}
OnCode p (E.Global t c) = Unit {0}
OnCode p (E.Export n k x) = Unit {0}
OnCode p (E.Exports es k n) = Unit {0}
OnCode p (E.Start x) = Unit {0}
OnCode p (E.Elem m xs) = Unit {0}
OnCode p (E.InlineElem w n xs) = Unit {0}
OnCode p (E.Code t ls here) = p t ls here
OnCode p (E.Data m d) = Unit {0}
OnCode p (E.InlineData w n d) = Unit {0}

-- a function's head is small and can be read
abbrev pub HeadIn : Bytes → Entry → Type 0
HeadIn s e = OnCode (λ t ls here. Head s t ls) e

-- a function's body reads to its end; `r` is the function's record
abbrev pub WholeIn : Bytes → ℕ → Entry → Type 0
WholeIn s r e = OnCode (λ t ls here. (body_from 0 (r + 1) s here).whole ≡ true) e

-- ## The entries of a field

-- the exports of the next item of a space
abbrev pub exports_of : Code.List → Kind.Space → Seen → Entry
exports_of es k seen = E.Exports es k (count_of seen (space_of k))

unfoldable pub first_of : Field → Seen → Entry
first_of (F.Type i ps rs) seen = E.Nothing
first_of (F.Import n i x) seen = E.Import n x
first_of (F.Item i es x) seen = exports_of es (source_space_of x) seen
first_of (F.Export n k x) seen = E.Export n k x
first_of (F.Start x) seen = E.Start x
first_of (F.Elem i m xs) seen = E.Elem m xs
first_of (F.Data i m d) seen = E.Data m d

-- the entries of an item after its exports
unfoldable pub second_of : Source → Seen → Entry
second_of (S.Own (O.Func t ls)) seen = E.Func t
second_of (S.Own (O.Table t)) seen = E.Table t
second_of (S.Own (O.Mem l)) seen = E.Mem l
second_of (S.Own (O.Global t c)) seen = E.Global t c
second_of (S.Imported n x) seen = E.Import n x
second_of (S.TableOf w xs) seen = E.InlineElem w (count_of seen tables) xs
second_of (S.MemOf w d) seen = E.InlineData w (count_of seen mems) d

unfoldable pub third_of : Source → ℕ → Entry
third_of (S.Own (O.Func t ls)) here = E.Code t ls here
third_of (S.Own (O.Table t)) here = E.Nothing
third_of (S.Own (O.Mem l)) here = E.Nothing
third_of (S.Own (O.Global t c)) here = E.Nothing
third_of (S.Imported n x) here = E.Nothing
third_of (S.TableOf w xs) here = E.InlineTable w xs
third_of (S.MemOf w d) here = E.InlineMem w d

unfoldable pub item_in : Field → Option Source
item_in (F.Type i ps rs) = None
item_in (F.Import n i x) = None
item_in (F.Item i es x) = Some x
item_in (F.Export n k x) = None
item_in (F.Start x) = None
item_in (F.Elem i m xs) = None
item_in (F.Data i m d) = None

abbrev pub second_in : Option Source → Seen → Entry
second_in (Some x) seen = second_of x seen
second_in None seen = E.Nothing

abbrev pub third_in : Option Source → ℕ → Entry
third_in (Some x) here = third_of x here
third_in None here = E.Nothing

-- in the order in which the definition resolves them
pub record Three : Type 0 where
  pub first : Entry
  pub second : Entry
  pub third : Entry

abbrev pub three_of : Entry → Entry → Entry → Three
three_of a b c = record { first = a; second = b; third = c }

unfoldable pub three : Field → Seen → ℕ → Three
three f seen here = three_of (first_of f seen) (second_in (item_in f) seen) (third_in (item_in f) here)

-- ## Entries with their sections

abbrev pub Entries : Type 0
Entries = List (ℕ × Bytes)

-- the entries of an item that is no type: section 1 is written from the table of types
unfoldable pub untyped : Item → Entries
untyped (type_i t) = []
untyped (import_i n d) = entries (import_i n d)
untyped (func_i n ls os) = entries (func_i n ls os)
untyped (table_i t) = entries (table_i t)
untyped (mem_i l) = entries (mem_i l)
untyped (global_i t o) = entries (global_i t o)
untyped (export_i n k x) = entries (export_i n k x)
untyped (start_i x) = entries (start_i x)
untyped (elem_i m ns) = entries (elem_i m ns)
untyped (data_i m d) = entries (data_i m d)

-- what fields resolve to, as entries
unfoldable pub entries_of : Scope Identifier → Numbered Identifier → Answer Entries
entries_of Γ fs = resolve_all Γ fs >>= λ is. ok (concat_map untyped is)

unfoldable pub tagged : ℕ → Answer (List Bytes) → Answer Entries
tagged k (ok bs) = ok (map (λ b. (k, b)) bs)
tagged k (fails q) = fails q

-- first the one, then the other
unfoldable pub both : {A : Type 0} → Answer (List A) → Answer (List A) → Answer (List A)
both (ok xs) (ok ys) = ok (xs ++ ys)
both (ok xs) (fails q) = fails q
both (fails q) b = fails q

unfoldable pub entry_in : Scope Identifier → Bytes → ℕ → Entry → Answer Entries
entry_in Γ s r e = tagged (section_no e) (answer_of Γ s r e)

unfoldable pub three_in : Scope Identifier → Bytes → ℕ → Three → Answer Entries
three_in Γ s r t = both (entry_in Γ s r t.first) (both (entry_in Γ s r t.second) (entry_in Γ s r t.third))
