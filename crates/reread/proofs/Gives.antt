-- What a field that was read tells: its bytes of kind and form, what it brings had room, and a function has at most 64 parameters and 64 locals.
use Rattle.std.specs.Prelude.{if◌then◌else◌}
use mathlib.Core.Path.{◌≡◌, refl, ap, sym, ◌∙◌, subst}
use Prim.Native.Nat.{ℕ, zero, suc, ◌+◌, ◌≤◌}
use mathlib.Core.Bool.{Bool, true, false}
use mathlib.Core.List.{List, [], ◌∷◌}
use mathlib.Core.Option.{Option}
use lib.Dec.{eqb, leb}
use lib.ListN.{length}
use borrow.Author.Tests.{eqb-true, leb-true}
use native.Mathlib.Omega.{arith}
use Rattle.definition.specs.Syntax.{Bytes, Identifier, Space, funcs, tables, mems, globals, types, elems, datas, code, TypeUse, Local, ExternType, ImportName}
use Rattle.definition.specs.Syntax.{own_func, own_table, own_mem, own_global, Source, own, imported, table_of, mem_of, FieldRec, type_r, import_r, item_r, export_r, start_r, elem_r, data_r}
use Rattle.definition.specs.Reader.{got, Reader, require, give, byte, many, choose, ◌>>=◌, ◌>>◌}
use Rattle.definition.specs.Token.{u32, up_to, counted, identifier, string, bytes, val_type, flag64, limits, table_type, global_type, present, optional, param, type_use}
use Rattle.definition.specs.Instructions.{constant}
use Rattle.definition.specs.Records.{Room, Extern, Forms, import_name, func_extern, table_extern, mem_extern, global_extern, import_of, import_rec, item_rec, import_form, own_func_form, own_table_form, inline_table_form, own_mem_form, inline_mem_form, own_global_form}
use Rattle.definition.specs.Records.{func_rec, table_rec, mem_rec, global_rec, type_rec, kind, export_rec, start_rec, mode, elem_rec, data_rec, field_recs, field_rec}
use Rattle.definition.specs.Spaces.{source_space, extern_space, own_space, segments}
use Rattle.laws.proofs.Backwards.{came, passed}

-- ## What a reader can give

-- a property of whatever it gives
record Gives {A : Type 0} (P : A → Type 0) (m : Reader A) : Type 0 where
  all : (s : Bytes) (at : ℕ) (y : A) (q : ℕ) → m s at ≡ got y q → P y

-- every row of a table does, by its byte
abbrev Each : {B : Type 0} → (ℕ → B → Type 0) → List (ℕ × Reader B) → Type 0
Each P [] = Unit {0}
Each P (row ∷ rows) = Gives (P row.0) row.1 × Each P rows

module _ {B : Type 0} {P : B → Type 0} where
  gives_give : (b : B) → P b → Gives P (give b)
  gives_give b p = record { all = λ s at y q e. let z : b ≡ y = cc in subst P z p }

  -- after a reader of whose value something is known
  gives_then : {A : Type 0} {Q : A → Type 0} (m : Reader A) (k : A → Reader B) → Gives Q m → ((a : A) → Q a → Gives P (k a)) → Gives P (m >>= k)
  gives_then m k g h =
      record {
        all = λ s at y q e.
            let c = came (m s at) e in
            (h c.value (g.all s at c.value c.next c.first)).all s c.next y q c.rest;
      }

  -- after any reader
  gives_after : {A : Type 0} (m : Reader A) (k : A → Reader B) → ((a : A) → Gives P (k a)) → Gives P (m >>= k)
  gives_after m k h = record { all = λ s at y q e. let c = came (m s at) e in (h c.value).all s c.next y q c.rest }

  -- after a test
  gives_require : (n : ℕ) (t : Bool) (m : Reader B) → (t ≡ true → Gives P m) → Gives P (require n t >>= λ _. m)
  gives_require n t m h = record { all = λ s at y q e. let c = passed _ n t s at e in (h c.0).all s at y q c.1 }

-- what is chosen from such a table
gives_choose : {B : Type 0} (P : ℕ → B → Type 0) (b : ℕ) (rows : List (ℕ × Reader B)) → Each P rows → Gives (P b) (choose b rows)
gives_choose P b [] g = record { all = λ s at y q e. let z : ◌≡◌ {A = ℕ} 0 1 = cc in absurd (omega arith) }
gives_choose {B = B} P b (row ∷ rows) g = go (eqb b row.0) refl (gives_choose P b rows g.1)
  where
    go : (t : Bool) → eqb b row.0 ≡ t → Gives (P b) (choose b rows) → Gives (P b) (if t then row.1 else choose b rows)
    go true e h = subst (λ j. Gives (P j) row.1) (sym (eqb-true b row.0 e)) g.0
    go false e h = h

-- what is known before a reader
any : {A : Type 0} {Q : Type 0} (m : Reader A) → Q → Gives (λ _. Q) m
any m h = record { all = λ s at y q e. h }

-- ## Counts

up_to_lem : (n ceiling : ℕ) → Gives (λ k. k ≤ ceiling) (up_to n ceiling)
unfolding up_to
up_to_lem n ceiling = gives_after u32 _ (λ k. gives_require n (leb k ceiling) (give k) (λ e. gives_give k (leb-true k ceiling e)))

many-long : {A : Type 0} (p : Reader A) (n : ℕ) → Gives (λ xs. length xs ≡ n) (many n p)
unfolding many
many-long p zero = gives_give [] refl
many-long p (suc n) = gives_after p _ (λ x. gives_then (many n p) _ (many-long p n) (λ xs e. gives_give (x ∷ xs) (ap suc e)))

counted-few : {A : Type 0} (ceiling : ℕ) (p : Reader A) → Gives (λ xs. length xs ≤ ceiling) (counted ceiling p)
unfolding counted
counted-few ceiling p = gives_then (up_to 7 ceiling) _ (up_to_lem 7 ceiling) (λ n h. record { all = λ s at y q e. let l = (many-long p n).all s at y q e in omega arith })

use_few : Gives (λ t. length t.params ≤ 64) type_use
unfolding type_use
use_few =
    gives_after optional _ (λ x.
    gives_then (counted 64 param) _ (counted-few 64 param) (λ ps h.
    gives_after (counted 16 val_type) _ (λ rs. gives_give (record { index = x; params = ps; results = rs }) h)))

-- ## Sources

-- few parameters and few locals
abbrev pub FewIn : Source Identifier → Type 0
FewIn (own (own_func t ls)) = (length t.params ≤ 64) × (length ls ≤ 64)
FewIn (own (own_table t)) = Unit {0}
FewIn (own (own_mem l)) = Unit {0}
FewIn (own (own_global t c)) = Unit {0}
FewIn (imported n d) = Unit {0}
FewIn (table_of w xs) = Unit {0}
FewIn (mem_of w d) = Unit {0}

-- there is room for one more item of each of these spaces
abbrev pub Rooms : Room → List Space → Type 0
Rooms room [] = Unit {0}
Rooms room (k ∷ ks) = (room.item k ≡ true) × Rooms room ks

-- the form's byte
abbrev form_byte : Source Identifier → ℕ
form_byte (own o) = 0
form_byte (imported n d) = 1
form_byte (table_of w xs) = 2
form_byte (mem_of w d) = 2

record IsSourceOf (room : Room) (k : Space) (b : ℕ) (x : Source Identifier) : Type 0 where
  space : source_space x ≡ k
  form : form_byte x ≡ b
  few : FewIn x
  rooms : Rooms room (segments x)

own-func : (room : Room) → Gives (IsSourceOf room funcs 0) own_func_form
unfolding own_func_form source_space own_space segments
own-func room =
    gives_then type_use _ use_few (λ t h.
    gives_then (counted 64 param) _ (counted-few 64 param) (λ ls g. gives_give (own (own_func t ls)) (record { space = refl; form = refl; few = (h, g); rooms = tt })))

own-table : (room : Room) → Gives (IsSourceOf room tables 0) own_table_form
unfolding own_table_form source_space own_space segments
own-table room = gives_after table_type _ (λ t. gives_give (own (own_table t)) (record { space = refl; form = refl; few = tt; rooms = tt }))

own-mem : (room : Room) → Gives (IsSourceOf room mems 0) own_mem_form
unfolding own_mem_form source_space own_space segments
own-mem room = gives_after limits _ (λ l. gives_give (own (own_mem l)) (record { space = refl; form = refl; few = tt; rooms = tt }))

own-global : (room : Room) → Gives (IsSourceOf room globals 0) own_global_form
unfolding own_global_form source_space own_space segments
own-global room = gives_after global_type _ (λ t. gives_after constant _ (λ c. gives_give (own (own_global t c)) (record { space = refl; form = refl; few = tt; rooms = tt })))

inline_table : (room : Room) → Gives (IsSourceOf room tables 2) (inline_table_form room)
unfolding inline_table_form source_space segments
inline_table room =
    gives_then (require 7 (room.item elems) >> flag64) _ (gives_require 7 (room.item elems) flag64 (λ free. any flag64 free)) (λ w free.
    gives_after (counted 1024 present) _ (λ xs. gives_give (table_of w xs) (record { space = refl; form = refl; few = tt; rooms = (free, tt) })))

inline_mem : (room : Room) → Gives (IsSourceOf room mems 2) (inline_mem_form room)
unfolding inline_mem_form source_space segments
inline_mem room =
    gives_then (require 7 (room.item datas) >> flag64) _ (gives_require 7 (room.item datas) flag64 (λ free. any flag64 free)) (λ w free.
    gives_after bytes _ (λ d. gives_give (mem_of w d) (record { space = refl; form = refl; few = tt; rooms = (free, tt) })))

import_form_lem : (room : Room) (k : Space) (extern : Reader Extern) → Gives (λ d. extern_space d ≡ k) extern → Gives (IsSourceOf room k 1) (import_form extern)
unfolding import_form source_space segments
import_form_lem room k extern g = gives_after import_name _ (λ n. gives_then extern _ g (λ d e. gives_give (imported n d) (record { space = e; form = refl; few = tt; rooms = tt })))

extern_func : Gives (λ d. extern_space d ≡ funcs) func_extern
unfolding func_extern extern_space
extern_func = gives_after type_use _ (λ t. gives_give (ExternType.func t) refl)

extern_table : Gives (λ d. extern_space d ≡ tables) table_extern
unfolding table_extern extern_space
extern_table = gives_after table_type _ (λ t. gives_give (ExternType.table t) refl)

extern_mem : Gives (λ d. extern_space d ≡ mems) mem_extern
unfolding mem_extern extern_space
extern_mem = gives_after limits _ (λ l. gives_give (ExternType.mem l) refl)

extern_global : Gives (λ d. extern_space d ≡ globals) global_extern
unfolding global_extern extern_space
extern_global = gives_after global_type _ (λ t. gives_give (ExternType.global t) refl)

-- ## Fields

-- an item had room for one more, and is few
pub record Roomy (room : Room) (x : Source Identifier) : Type 0 where
  pub space : room.item (source_space x) ≡ true
  pub few : FewIn x
  pub rooms : Rooms room (segments x)

abbrev pub RoomyField : Room → FieldRec Identifier → Type 0
RoomyField room (type_r i t) = room.item types ≡ true
RoomyField room (import_r n i d) = room.item (extern_space d) ≡ true
RoomyField room (item_r i es x) = Roomy room x
RoomyField room (export_r n k x) = Unit {0}
RoomyField room (start_r x) = Unit {0}
RoomyField room (elem_r i m xs) = room.item elems ≡ true
RoomyField room (data_r i m d) = room.item datas ≡ true

-- the byte that a field's record begins with
abbrev record_byte : FieldRec Identifier → ℕ
record_byte (type_r i t) = 0x01
record_byte (import_r n i d) = 0x02
record_byte (item_r i es x) = 0x03 + code (source_space x)
record_byte (export_r n k x) = 0x07
record_byte (start_r x) = 0x08
record_byte (elem_r i m xs) = 0x09
record_byte (data_r i m d) = 0x0A

record IsFieldOf (room : Room) (b : ℕ) (f : FieldRec Identifier) : Type 0 where
  roomy : RoomyField room f
  first : record_byte f ≡ b

-- the byte of what an import's record imports
abbrev kind_byte : FieldRec Identifier → ℕ
kind_byte (type_r i t) = 0
kind_byte (import_r n i d) = code (extern_space d)
kind_byte (item_r i es x) = 0
kind_byte (export_r n k x) = 0
kind_byte (start_r x) = 0
kind_byte (elem_r i m xs) = 0
kind_byte (data_r i m d) = 0

record ImportOf (room : Room) (b : ℕ) (f : FieldRec Identifier) : Type 0 where
  field : IsFieldOf room 0x02 f
  kind : kind_byte f ≡ b

-- it brings no function, neither imported nor own
abbrev pub NoFunc : FieldRec Identifier → Type 0
NoFunc (type_r i t) = Unit {0}
NoFunc (import_r n i d) = extern_space d ≡ funcs → ⊥
NoFunc (item_r i es x) = source_space x ≡ funcs → ⊥
NoFunc (export_r n k x) = Unit {0}
NoFunc (start_r x) = Unit {0}
NoFunc (elem_r i m xs) = Unit {0}
NoFunc (data_r i m d) = Unit {0}

module _ (room : Room) where
  item_roomy : (k : Space) (forms : Forms) → Each (IsSourceOf room k) forms → Gives (IsFieldOf room (0x03 + code k)) (item_rec room k forms)
  unfolding item_rec
  item_roomy k forms g =
      gives_require 7 (room.item k) _ (λ free.
      gives_after identifier _ (λ i.
      gives_after (counted 8 string) _ (λ es.
      gives_after byte _ (λ b.
      gives_then (choose b forms) _ (gives_choose (IsSourceOf room k) b forms g) (λ x e.
      gives_give (item_r i es x)
      (record { roomy = record { space = ap room.item e.space ∙ free; few = e.few; rooms = e.rooms }; first = ap (λ z. 0x03 + code z) e.space }))))))

  func_roomy : Gives (IsFieldOf room 0x03) (func_rec room)
  unfolding func_rec
  func_roomy = item_roomy funcs _ (own-func room, (import_form_lem room funcs func_extern extern_func, tt))

  table_roomy : Gives (IsFieldOf room 0x04) (table_rec room)
  unfolding table_rec
  table_roomy = item_roomy tables _ (own-table room, (import_form_lem room tables table_extern extern_table, (inline_table room, tt)))

  mem_roomy : Gives (IsFieldOf room 0x05) (mem_rec room)
  unfolding mem_rec
  mem_roomy = item_roomy mems _ (own-mem room, (import_form_lem room mems mem_extern extern_mem, (inline_mem room, tt)))

  global_roomy : Gives (IsFieldOf room 0x06) (global_rec room)
  unfolding global_rec
  global_roomy = item_roomy globals _ (own-global room, (import_form_lem room globals global_extern extern_global, tt))

  type_roomy : Gives (IsFieldOf room 0x01) (type_rec room)
  unfolding type_rec
  type_roomy =
      gives_require 7 (room.item types) _ (λ free.
      gives_after identifier _ (λ i.
      gives_after (counted 64 val_type) _ (λ ps.
      gives_after (counted 16 val_type) _ (λ rs. gives_give (type_r i (record { params = ps; results = rs })) (record { roomy = free; first = refl })))))

  import_of_lem : (n : ImportName) (k : Space) (extern : Reader Extern) → Gives (λ d. extern_space d ≡ k) extern → Gives (ImportOf room (code k)) (import_of room n k extern)
  unfolding import_of
  import_of_lem n k extern g =
      gives_require 7 (room.item k) _ (λ free.
      gives_after identifier _ (λ i. gives_then extern _ g (λ d e. gives_give (import_r n i d) (record { field = record { roomy = ap room.item e ∙ free; first = refl }; kind = ap code e }))))

  -- what the byte of its kind chooses
  abbrev pub imports : ImportName → List (ℕ × Reader (FieldRec Identifier))
  imports n =
      (0, import_of room n funcs func_extern)
      ∷ (1, import_of room n tables table_extern)
      ∷ (2, import_of room n mems mem_extern)
      ∷ (3, import_of room n globals global_extern)
      ∷ []

  import_by : (n : ImportName) (b : ℕ) → Gives (ImportOf room b) (choose b (imports n))
  import_by n b =
      gives_choose (ImportOf room) b (imports n) (
        import_of_lem n funcs func_extern extern_func,
        (import_of_lem n tables table_extern extern_table, (import_of_lem n mems mem_extern extern_mem, (import_of_lem n globals global_extern extern_global, tt))),
      )

  import_roomy : Gives (IsFieldOf room 0x02) (import_rec room)
  unfolding import_rec
  import_roomy = gives_after import_name _ (λ n. gives_after byte _ (λ b. record { all = λ s at f q e. ((import_by n b).all s at f q e).field }))

  export_roomy : Gives (IsFieldOf room 0x07) export_rec
  unfolding export_rec
  export_roomy = gives_after string _ (λ n. gives_after kind _ (λ k. gives_after present _ (λ x. gives_give (export_r n k x) (record { roomy = tt; first = refl }))))

  start_roomy : Gives (IsFieldOf room 0x08) (start_rec room)
  unfolding start_rec
  start_roomy = gives_after (require 9 room.start >> present) _ (λ x. gives_give (start_r x) (record { roomy = tt; first = refl }))

  elem_roomy : Gives (IsFieldOf room 0x09) (elem_rec room)
  unfolding elem_rec
  elem_roomy =
      gives_require 7 (room.item elems) _ (λ free.
      gives_after identifier _ (λ i. gives_after mode _ (λ m. gives_after (counted 1024 present) _ (λ xs. gives_give (elem_r i m xs) (record { roomy = free; first = refl })))))

  data_roomy : Gives (IsFieldOf room 0x0A) (data_rec room)
  unfolding data_rec
  data_roomy =
      gives_require 7 (room.item datas) _ (λ free. gives_after identifier _ (λ i. gives_after mode _ (λ m. gives_after bytes _ (λ d. gives_give (data_r i m d) (record { roomy = free; first = refl })))))

  -- what a field record's byte chooses
  field_of : (b : ℕ) → Gives (IsFieldOf room b) (choose b (field_recs room))
  unfolding field_recs
  field_of b =
      gives_choose (IsFieldOf room) b (field_recs room)
      (type_roomy, (import_roomy, (func_roomy, (table_roomy, (mem_roomy, (global_roomy, (export_roomy, (start_roomy, (elem_roomy, (data_roomy, tt))))))))))

  -- a field that was read
  pub roomy : (s : Bytes) (at : ℕ) (f : FieldRec Identifier) (q : ℕ) → field_rec room s at ≡ got f q → RoomyField room f
  unfolding field_rec
  roomy s at f q e = let c = came (byte s at) e in ((field_of c.value).all s c.next f q c.rest).roomy

  -- a function has at most 64 parameters and 64 locals
  pub func-few : (s : Bytes) (at next : ℕ) (i : Option Identifier) (es : List Bytes) (t : TypeUse Identifier) (ls : List (Local Identifier))
      → field_rec room s at ≡ got (item_r i es (own (own_func t ls))) next → (length t.params ≤ 64) × (length ls ≤ 64)
  func-few s at next i es t ls e = (roomy s at _ next e).few

  -- ## The bytes of functions

  module _ (s : Bytes) (f : FieldRec Identifier) where
    -- the record of an import begins with 02, and that of a function with 03
    pub other_record_lem : (at b n q : ℕ) → byte s at ≡ got b n → (b ≡ 0x02 → ⊥) → (b ≡ 0x03 → ⊥) → field_rec room s at ≡ got f q → NoFunc f
    unfolding field_rec
    other_record_lem at b n q d h g e = go f ((field_of b).all s n f q (rw d at e)).first
      where
        go : (f : FieldRec Identifier) → record_byte f ≡ b → NoFunc f
        go (type_r i t) e = tt
        go (import_r n i d) e = λ z. h (sym e)
        go (item_r i es x) e = λ z. g (sym e ∙ ap (λ k. 0x03 + code k) z)
        go (export_r n k x) e = tt
        go (start_r x) e = tt
        go (elem_r i m xs) e = tt
        go (data_r i m d) e = tt

    -- an imported function is of kind 0
    pub other_import : (n : ImportName) (b at q : ℕ) → (b ≡ 0 → ⊥) → choose b (imports n) s at ≡ got f q → NoFunc f
    other_import n b at q h e = let o = (import_by n b).all s at f q e in go f o.kind o.field.first
      where
        go : (f : FieldRec Identifier) → kind_byte f ≡ b → record_byte f ≡ 0x02 → NoFunc f
        go (type_r i t) k r = tt
        go (import_r n i d) k r = λ z. h (sym k ∙ ap code z)
        go (item_r i es x) k r = absurd (omega arith)
        go (export_r n k x) j r = tt
        go (start_r x) k r = tt
        go (elem_r i m xs) k r = tt
        go (data_r i m d) k r = tt
