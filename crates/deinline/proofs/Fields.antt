-- The fields of one record resolve to the entries that the code makes of it.
use Prim.Native.Nat.{ℕ, ◌+◌, ◌-◌}
use mathlib.Core.Path.{◌≡◌, refl, sym, ◌∙◌, ap}
use mathlib.Core.Bool.{Bool}
use mathlib.Core.List.{List, [], ◌∷◌, ◌++◌, map, map-append, append_assoc, append-nil}
use mathlib.Core.Option.{Option, none}
use lib.ListN.{length}
use Rattle.definition.specs.Basic.{Answer, ok, fails, ◌>>=◌, each, concat_map}
use Rattle.definition.specs.Syntax as Syntax
use Rattle.definition.specs.Syntax.{Bytes, Identifier, FuncType, Space, ExternType, Index, own_index, active, Plain, Body, TypeUse, TypeNo, Item, Field, type_f, import_f, own_f, export_f, start_f, elem_f, data_f}
use Rattle.definition.specs.Syntax.{own_func, own_table, own_mem, own_global}
use Rattle.definition.specs.Token as Token
use Rattle.definition.specs.Spaces.{source_space}
use Rattle.definition.specs.Read.{field_body, source_body, own_body}
use Rattle.definition.specs.Deinline.{Numbered, exactly, pages, zero_offset, fields_of, source_fields}
use Rattle.definition.specs.Names.{Scope, number_in, item_no, type_no, extern_no, const_op, own_item, resolve, resolve_all}
use Rattle.definition.specs.Names as Names
use Rattle.definition.specs.Binary.{entries}
use Rattle.syntax.specs.Tokens.{part_of, id_of, index_of, space_of}
use Rattle.syntax.specs.declared.Part.{Part}
use Rattle.syntax.specs.declared.Space as Kind
use Rattle.syntax.specs.declared.Space.TheVariants as K
use Rattle.syntax.specs.declared.Index as Place
use Rattle.syntax.specs.CoreTypes.{global_type_is}
use Rattle.syntax.specs.Plain.{constant_at}
use Rattle.syntax.specs.declared.ImportName.{ImportName}
use Rattle.syntax.specs.declared.Mode as Segment
use Rattle.syntax.specs.TypeUses.{list_of, use_of}
use Rattle.syntax.specs.declared.List as Code
use Rattle.syntax.specs.Items.{count_of, name_of, extern_is, own_of}
use Rattle.syntax.specs.declared.Seen.{Seen}
use Rattle.syntax.specs.declared.Extern.{Extern}
use Rattle.syntax.specs.declared.Own.{Own}
use Rattle.syntax.specs.declared.Own.TheVariants as O
use Rattle.syntax.specs.declared.Source.TheVariants as S
use Rattle.syntax.specs.Fields.{mode_of, field_of}
use Rattle.syntax.specs.declared.Field as Read
use Rattle.syntax.specs.declared.Field.TheVariants as F
use Rattle.walk.specs.Walk.{body_in, fields_here}
use Rattle.instr.specs.Bodies.{body_from}
use Rattle.walk.specs.declared.Cursor.{Cursor}
use Rattle.import_export.specs.Entry.{entry_of, export_entries}
use Rattle.counting.specs.Counting.{extern_space_of, own_space_of}
use Rattle.counting.proofs.Counts.{extern_brings_lem, own-brings}
use Rattle.deinline.specs.Entry.{one_of, type_bytes, answer_of, Entries, untyped, entries_of, tagged, both, entry_in, three_in, first_of, item_in, second_of, third_of, three_of, three}
use Rattle.binary.specs.Code.{code_of}
use Rattle.instr.specs.Functions.{func_field}
use Rattle.syntax.specs.declared.Entry.{Entry}
use Rattle.syntax.specs.declared.Entry.TheVariants as E

-- ## Lists of fields

both-none : {A : Type 0} (a : Answer (List A)) → both a (ok []) ≡ a
unfolding both
both-none (ok xs) = ap ok (append-nil xs)
both-none (fails q) = refl

none_both : {A : Type 0} (a : Answer (List A)) → both (ok []) a ≡ a
unfolding both
none_both (ok xs) = refl
none_both (fails q) = refl

-- the entries of what an item was resolved to
abbrev resolved_in : Answer Item → Answer Entries
resolved_in (ok i) = ok (untyped i)
resolved_in (fails q) = fails q

module _ (Γ : Scope Identifier) where
  entries_none : entries_of Γ [] ≡ ok []
  unfolding entries_of resolve_all each ◌>>=◌ concat_map
  entries_none = refl

  -- one field, and then the others
  entries_cons : (r : ℕ) (f : Field Identifier) (fs : Numbered Identifier) → entries_of Γ ((r, f) ∷ fs) ≡ both (resolved_in (resolve Γ r f)) (entries_of Γ fs)
  unfolding entries_of resolve_all each ◌>>=◌ concat_map both
  entries_cons r f fs = go (resolve Γ r f) (each (λ x. resolve Γ x.0 x.1) fs)
    where
      go : (a : Answer Item) (b : Answer (List Item))
          → ((a >>= λ y. b >>= λ ys. ok (y ∷ ys)) >>= λ is. ok (concat_map untyped is)) ≡ both (resolved_in a) (b >>= λ is. ok (concat_map untyped is))
      go (ok i) (ok is) = refl
      go (ok i) (fails q) = refl
      go (fails q) b = refl

  entries-one : (r : ℕ) (f : Field Identifier) → entries_of Γ ((r, f) ∷ []) ≡ resolved_in (resolve Γ r f)
  entries-one r f = entries_cons r f [] ∙ ap (both (resolved_in (resolve Γ r f))) entries_none ∙ both-none (resolved_in (resolve Γ r f))

  both_assoc : {A : Type 0} (a b c : Answer (List A)) → both a (both b c) ≡ both (both a b) c
  unfolding both
  both_assoc (ok a) (ok b) (ok c) = ap ok (sym (append_assoc a b c))
  both_assoc (ok a) (ok b) (fails q) = refl
  both_assoc (ok a) (fails q) c = refl
  both_assoc (fails q) b c = refl

  -- what two lists of fields resolve to, they resolve to together
  pub entries-append : (xs ys : Numbered Identifier) → entries_of Γ (xs ++ ys) ≡ both (entries_of Γ xs) (entries_of Γ ys)
  entries-append [] ys = sym (ap (λ a. both a (entries_of Γ ys)) entries_none ∙ none_both (entries_of Γ ys))
  entries-append ((r, f) ∷ xs) ys =
      entries_cons r f (xs ++ ys)
      ∙ ap (both (resolved_in (resolve Γ r f))) (entries-append xs ys)
      ∙ both_assoc (resolved_in (resolve Γ r f)) (entries_of Γ xs) (entries_of Γ ys)
      ∙ ap (λ a. both a (entries_of Γ ys)) (sym (entries_cons r f xs))

-- ## Items of a single entry

-- an item, if there is one, has a single entry, in section k
abbrev Single : ℕ → Answer Item → Type 0
Single k (ok i) = untyped i ≡ (k, entry_of i) ∷ []
Single k (fails q) = Unit {0}

single_then : {A : Type 0} (k : ℕ) (a : Answer A) (f : A → Answer Item) → ((y : A) → Single k (f y)) → Single k (a >>= f)
unfolding ◌>>=◌
single_then k (ok y) f h = h y
single_then k (fails q) f h = tt

single : (k : ℕ) (a : Answer Item) → Single k a → resolved_in a ≡ tagged k (one_of entry_of a)
unfolding tagged one_of
single k (ok i) h = ap ok h
single k (fails q) h = refl

module _ (Γ : Scope Identifier) (r : ℕ) where
  import_single : (n : Syntax.ImportName) (i : Option Identifier) (d : ExternType (TypeUse Identifier)) → Single 2 (resolve Γ r (import_f n i d))
  unfolding resolve entries untyped entry_of
  import_single n i d = single_then 2 (extern_no Γ r d) (λ e. ok (Syntax.import_i n e)) (λ e. refl)

  global-single : (i : Option Identifier) (t : Syntax.GlobalType) (c : Plain Identifier) (b : Body Identifier) → Single 6 (resolve Γ r (own_f i (own_global t c) b))
  unfolding resolve own_item entries untyped entry_of
  global-single i t c b = single_then 6 (const_op Γ r c) (λ o. ok (Syntax.global_i t o)) (λ o. refl)

  export_single : (n : Bytes) (k : Space) (x : Index Identifier) → Single 7 (resolve Γ r (export_f n k x))
  unfolding resolve entries untyped entry_of
  export_single n k x = single_then 7 (item_no Γ k r x) (λ m. ok (Syntax.export_i n k m)) (λ m. refl)

  start-single : (x : Index Identifier) → Single 8 (resolve Γ r (start_f x))
  unfolding resolve entries untyped entry_of
  start-single x = single_then 8 (item_no Γ Syntax.funcs r x) (λ m. ok (Syntax.start_i m)) (λ m. refl)

  elem-single : (i : Option Identifier) (m : Syntax.Mode (Index Identifier) (Plain Identifier)) (xs : List (Index Identifier)) → Single 9 (resolve Γ r (elem_f i m xs))
  unfolding resolve entries untyped entry_of
  elem-single i m xs =
      single_then 9 (Names.mode_of Γ (Names.table_no Γ) r m) (λ y. each (item_no Γ Syntax.funcs r) xs >>= λ ns. ok (Syntax.elem_i y ns))
      (λ y. single_then 9 (each (item_no Γ Syntax.funcs r) xs) (λ ns. ok (Syntax.elem_i y ns)) (λ ns. refl))

  data_single : (i : Option Identifier) (m : Syntax.Mode (Index Identifier) (Plain Identifier)) (d : Bytes) → Single 11 (resolve Γ r (data_f i m d))
  unfolding resolve entries untyped entry_of
  data_single i m d = single_then 11 (Names.mode_of Γ (item_no Γ Syntax.mems) r m) (λ y. ok (Syntax.data_i y d)) (λ y. refl)

-- ## Functions

-- a function, if there is one, has the type n and the code
abbrev Function : TypeNo → Answer Item → Type 0
Function n (ok i) = untyped i ≡ (3, type_bytes n) ∷ (10, code_of i) ∷ []
Function n (fails q) = Unit {0}

function_then : {A : Type 0} (n : TypeNo) (a : Answer A) (f : A → Answer Item) → ((y : A) → Function n (f y)) → Function n (a >>= f)
unfolding ◌>>=◌
function_then n (ok y) f h = h y
function_then n (fails q) f h = tt

-- a function's type is resolved before all else of it
function_two : (a : Answer TypeNo) (f : TypeNo → Answer Item) → ((n : TypeNo) → Function n (f n))
    → resolved_in (a >>= f) ≡ both (tagged 3 (one_of type_bytes a)) (tagged 10 (one_of code_of (a >>= f)))
unfolding ◌>>=◌ tagged one_of both
function_two (fails q) f h = refl
function_two (ok n) f h = go (f n) (h n)
  where
    go : (b : Answer Item) → Function n b → resolved_in b ≡ both (ok ((3, type_bytes n) ∷ [])) (tagged 10 (one_of code_of b))
    go (ok i) e = ap ok e
    go (fails q) e = refl

module _ (Γ : Scope Identifier) (r : ℕ) where
  function_both : (i : Option Identifier) (t : TypeUse Identifier) (ls : List (Syntax.Local Identifier)) (b : Body Identifier)
      → resolved_in (resolve Γ r (own_f i (own_func t ls) b)) ≡ both (tagged 3 (one_of type_bytes (type_no Γ r t))) (tagged 10 (one_of code_of (resolve Γ r (own_f none (own_func t ls) b))))
  unfolding resolve own_item entries untyped type_bytes
  function_both i t ls b =
      function_two (type_no Γ r t) _
      (λ n. function_then n (Names.distinct_locals Γ r (Names.locals_of Γ.all_types n t ls)) _
      (λ z. function_then n (Names.body Γ (Names.locals_of Γ.all_types n t ls) [] b) (λ os. ok (Syntax.func_i n (map (λ l. l.type) ls) os)) (λ os. refl)))

  -- ## Exports: a number resolves to itself

  export_number : (e : Bytes) (k : Space) (n : ℕ) → resolve Γ r (export_f e k (own_index n)) ≡ ok (Syntax.export_i e k n)
  unfolding resolve item_no number_in ◌>>=◌
  export_number e k n = refl

  exports_are : (k : Space) (n : ℕ) (es : List Bytes)
      → entries_of Γ (map (λ x. (r, x)) (map (λ e. export_f e k (own_index n)) es)) ≡ tagged 7 (ok (export_entries k n es))
  unfolding tagged export_entries both entries untyped
  exports_are k n [] = entries_none Γ
  exports_are k n (e ∷ es) = entries_cons Γ r (export_f e k (own_index n)) _ ∙ rw (export_number e k n, exports_are k n es) refl

-- ## The three entries

module _ (Γ : Scope Identifier) (s : Bytes) (r : ℕ) where
  nothing_in : entry_in Γ s r E.Nothing ≡ ok []
  unfolding entry_in answer_of tagged
  nothing_in = refl

  pub last_none : (a : Answer Entries) → both a (entry_in Γ s r E.Nothing) ≡ a
  last_none a = ap (both a) nothing_in ∙ both-none a

  pub only_in : (e : Entry) → three_in Γ s r (three_of e E.Nothing E.Nothing) ≡ entry_in Γ s r e
  unfolding three_in
  only_in e = ap (both (entry_in Γ s r e)) (last_none (entry_in Γ s r E.Nothing)) ∙ last_none (entry_in Γ s r e)

  -- a field of one entry
  one_entry : (f : Field Identifier) (e : Entry) → resolved_in (resolve Γ r f) ≡ entry_in Γ s r e → entries_of Γ ((r, f) ∷ []) ≡ three_in Γ s r (three_of e E.Nothing E.Nothing)
  one_entry f e h = entries-one Γ r f ∙ h ∙ sym (only_in e)

  -- the exports of an item, and then its fields
  item-three : (es : Code.List) (k : Kind.Space) (n : ℕ) (fs : List (Field Identifier)) (a b : Entry)
      → entries_of Γ (map (λ x. (r, x)) fs) ≡ both (entry_in Γ s r a) (entry_in Γ s r b)
      → entries_of Γ (map (λ x. (r, x)) (map (λ e. export_f e (space_of k) (own_index n)) (list_of Token.string s es) ++ fs)) ≡ three_in Γ s r (three_of (E.Exports es k n) a b)
  unfolding three_in entry_in answer_of
  item-three es k n fs a b h =
      ap (entries_of Γ) (map-append (λ x. (r, x)) (map (λ e. export_f e (space_of k) (own_index n)) (list_of Token.string s es)) fs)
      ∙ entries-append Γ (map (λ x. (r, x)) (map (λ e. export_f e (space_of k) (own_index n)) (list_of Token.string s es))) (map (λ x. (r, x)) fs)
      ∙ rw (exports_are Γ r (space_of k) n (list_of Token.string s es), h)

  -- the field of an item of one entry
  item-one : (f : Field Identifier) (a : Entry) → resolved_in (resolve Γ r f) ≡ entry_in Γ s r a → entries_of Γ ((r, f) ∷ []) ≡ both (entry_in Γ s r a) (entry_in Γ s r E.Nothing)
  item-one f a h = entries-one Γ r f ∙ h ∙ sym (last_none (entry_in Γ s r a))

  -- a segment, and the item that it fills
  item_two : (f g : Field Identifier) (a b : Entry) → resolved_in (resolve Γ r f) ≡ entry_in Γ s r a → resolved_in (resolve Γ r g) ≡ entry_in Γ s r b
      → entries_of Γ ((r, f) ∷ (r, g) ∷ []) ≡ both (entry_in Γ s r a) (entry_in Γ s r b)
  item_two f g a b h k = entries_cons Γ r f ((r, g) ∷ []) ∙ rw (entries-one Γ r g, h, k)

  import_in : (n : ImportName) (i : Option Identifier) (x : Extern) → resolved_in (resolve Γ r (import_f (name_of s n) i (extern_is s x))) ≡ entry_in Γ s r (E.Import n x)
  unfolding entry_in answer_of resolve
  import_in n i x = single 2 _ (import_single Γ r (name_of s n) i (extern_is s x))

  type_in : (i : Option Identifier) (t : FuncType) → resolved_in (resolve Γ r (type_f i t)) ≡ entry_in Γ s r E.Nothing
  unfolding entry_in answer_of resolve untyped tagged
  type_in i t = refl

  export_in : (n : Part) (k : Kind.Space) (x : Place.Index) → resolved_in (resolve Γ r (export_f (part_of s n) (space_of k) (index_of s x))) ≡ entry_in Γ s r (E.Export n k x)
  unfolding entry_in answer_of
  export_in n k x = single 7 _ (export_single Γ r (part_of s n) (space_of k) (index_of s x))

  start_in : (x : Place.Index) → resolved_in (resolve Γ r (start_f (index_of s x))) ≡ entry_in Γ s r (E.Start x)
  unfolding entry_in answer_of
  start_in x = single 8 _ (start-single Γ r (index_of s x))

  elem_in : (i : Option Identifier) (m : Segment.Mode) (xs : Code.List) → resolved_in (resolve Γ r (elem_f i (mode_of s m) (list_of Token.present s xs))) ≡ entry_in Γ s r (E.Elem m xs)
  unfolding entry_in answer_of resolve
  elem_in i m xs = single 9 _ (elem-single Γ r i (mode_of s m) (list_of Token.present s xs))

  data_in : (i : Option Identifier) (m : Segment.Mode) (d : Part) → resolved_in (resolve Γ r (data_f i (mode_of s m) (part_of s d))) ≡ entry_in Γ s r (E.Data m d)
  unfolding entry_in answer_of resolve
  data_in i m d = single 11 _ (data_single Γ r i (mode_of s m) (part_of s d))

  own-three : (es : Code.List) (i : Option Identifier) (o : Own) (seen : Seen) (n here : ℕ)
      → entries_of Γ (map (λ x. (r, x)) (map (λ e. export_f e (space_of (own_space_of o)) (own_index n)) (list_of Token.string s es) ++ (own_f i (own_of s o) (body_in (own_body (own_of s o)) (r + 1) s here) ∷ [])))
      ≡ three_in Γ s r (three_of (E.Exports es (own_space_of o) n) (second_of (S.Own o) seen) (third_of (S.Own o) here))
  unfolding entry_in answer_of resolve own_item own_body entries untyped tagged func_field second_of third_of
  own-three es i (O.Func t ls) seen n here = item-three es K.Funcs n _ (E.Func t) (E.Code t ls here) (entries-one Γ r _ ∙ function_both Γ r i (use_of s t) (list_of Token.param s ls) (body_from 0 (r + 1) s here).body)
  own-three es i (O.Table t) seen n here = item-three es K.Tables n _ (E.Table t) E.Nothing (item-one _ (E.Table t) refl)
  own-three es i (O.Mem l) seen n here = item-three es K.Mems n _ (E.Mem l) E.Nothing (item-one _ (E.Mem l) refl)
  own-three es i (O.Global t c) seen n here = item-three es K.Globals n _ (E.Global t c) E.Nothing (item-one _ (E.Global t c) (single 6 _ (global-single Γ r i (global_type_is t) (constant_at s c) [])))

  extern_three : (es : Code.List) (i : Option Identifier) (m : ImportName) (x : Extern) (n : ℕ)
      → entries_of Γ (map (λ x. (r, x)) (map (λ e. export_f e (space_of (extern_space_of x)) (own_index n)) (list_of Token.string s es) ++ (import_f (name_of s m) i (extern_is s x) ∷ [])))
      ≡ three_in Γ s r (three_of (E.Exports es (extern_space_of x) n) (E.Import m x) E.Nothing)
  extern_three es i m x n = item-three es (extern_space_of x) n _ (E.Import m x) E.Nothing (item-one _ (E.Import m x) (import_in m i x))

  -- an inline table's segment has the table's number, and so for a memory
  table-three : (es : Code.List) (i : Option Identifier) (w : Bool) (xs : Code.List) (n : ℕ)
      → entries_of Γ (map (λ x. (r, x)) (map (λ e. export_f e Syntax.tables (own_index n)) (list_of Token.string s es)
      ++ (elem_f none (active (own_index n) (zero_offset w)) (list_of Token.present s xs)
      ∷ own_f i (own_table (record { element = 0x70; limits = exactly w (length (list_of Token.present s xs)) })) []
      ∷ [])))
      ≡ three_in Γ s r (three_of (E.Exports es K.Tables n) (E.InlineElem w n xs) (E.InlineTable w xs))
  unfolding entry_in answer_of resolve own_item entries untyped tagged
  table-three es i w xs n =
      item-three es K.Tables n _ (E.InlineElem w n xs) (E.InlineTable w xs)
      (item_two _ _ (E.InlineElem w n xs) (E.InlineTable w xs) (single 9 _ (elem-single Γ r none (active (own_index n) (zero_offset w)) (list_of Token.present s xs))) refl)

  mem-three : (es : Code.List) (i : Option Identifier) (w : Bool) (d : Part) (n : ℕ)
      → entries_of Γ (map (λ x. (r, x)) (map (λ e. export_f e Syntax.mems (own_index n)) (list_of Token.string s es)
      ++ (data_f none (active (own_index n) (zero_offset w)) (part_of s d)
      ∷ own_f i (own_mem (exactly w (pages (length (part_of s d))))) []
      ∷ [])))
      ≡ three_in Γ s r (three_of (E.Exports es K.Mems n) (E.InlineData w n d) (E.InlineMem w d))
  unfolding entry_in answer_of resolve own_item entries untyped tagged
  mem-three es i w d n =
      item-three es K.Mems n _ (E.InlineData w n d) (E.InlineMem w d)
      (item_two _ _ (E.InlineData w n d) (E.InlineMem w d) (single 11 _ (data_single Γ r none (active (own_index n) (zero_offset w)) (part_of s d))) refl)

-- ## One record

pub entries-here : (Γ : Scope Identifier) (s : Bytes) (c next : Cursor) (f : Read.Field) (here : ℕ)
    → entries_of Γ (fields_here c s (record { field = field_of s f; head_end = here; next = next })) ≡ three_in Γ s c.rec (three f c.seen here)
unfolding fields_here fields_of field_body source_body source_space source_fields three first_of item_in second_of third_of
entries-here Γ s c next (F.Type i ps rs) here = one_entry Γ s c.rec _ E.Nothing (type_in Γ s c.rec (id_of s i) _)
entries-here Γ s c next (F.Import n i x) here = one_entry Γ s c.rec _ (E.Import n x) (import_in Γ s c.rec n (id_of s i) x)
entries-here Γ s c next (F.Export n k x) here = one_entry Γ s c.rec _ (E.Export n k x) (export_in Γ s c.rec n k x)
entries-here Γ s c next (F.Start x) here = one_entry Γ s c.rec _ (E.Start x) (start_in Γ s c.rec x)
entries-here Γ s c next (F.Elem i m xs) here = one_entry Γ s c.rec _ (E.Elem m xs) (elem_in Γ s c.rec (id_of s i) m xs)
entries-here Γ s c next (F.Data i m d) here = one_entry Γ s c.rec _ (E.Data m d) (data_in Γ s c.rec (id_of s i) m d)
entries-here Γ s c next (F.Item i es (S.Own o)) here = rw (← own-brings s o) (own-three Γ s c.rec es (id_of s i) o c.seen (count_of c.seen (space_of (own_space_of o))) here)
entries-here Γ s c next (F.Item i es (S.Imported n x)) here = rw (← extern_brings_lem s x) (extern_three Γ s c.rec es (id_of s i) n x (count_of c.seen (space_of (extern_space_of x))))
entries-here Γ s c next (F.Item i es (S.TableOf w xs)) here = table-three Γ s c.rec es (id_of s i) w xs (count_of c.seen Syntax.tables)
entries-here Γ s c next (F.Item i es (S.MemOf w d)) here = mem-three Γ s c.rec es (id_of s i) w d (count_of c.seen Syntax.mems)
