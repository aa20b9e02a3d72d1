-- A type that was read as a field had room for one more.
use Rattle.std.specs.Prelude.{if◌then◌else◌}
use Prim.Native.Nat.{ℕ}
use mathlib.Core.Path.{◌≡◌, subst}
use mathlib.Core.Bool.{Bool, true, false}
use mathlib.Core.List.{List, [], ◌∷◌}
use mathlib.Core.Option.{Option}
use lib.Dec.{eqb}
use native.Mathlib.Omega.{arith}
use Rattle.definition.specs.Syntax.{Bytes, Identifier, Space, FuncType, FieldRec, type_r, import_r, item_r, export_r, start_r, elem_r, data_r, ImportName, funcs, tables, mems, globals, types, elems, datas}
use Rattle.definition.specs.Reader.{got, Reader, require, give, byte, choose, ◌>>=◌, ◌>>◌}
use Rattle.definition.specs.Token.{counted, identifier, string, bytes, val_type, present}
use Rattle.definition.specs.Records.{Room, Extern, Forms, import_name, func_extern, table_extern, mem_extern, global_extern, import_of, import_rec, item_rec, func_rec, table_rec, mem_rec, global_rec}
use Rattle.definition.specs.Records.{type_rec, kind, export_rec, start_rec, mode, elem_rec, data_rec, field_recs, field_rec}
use Rattle.laws.proofs.Backwards.{came, passed}

module _ (room : Room) where
  -- no type, or there was room for it
  abbrev Fair : FieldRec Identifier → Type 0
  Fair (type_r i t) = room.item types ≡ true
  Fair (import_r n i d) = Unit {0}
  Fair (item_r i es x) = Unit {0}
  Fair (export_r n k x) = Unit {0}
  Fair (start_r x) = Unit {0}
  Fair (elem_r i m xs) = Unit {0}
  Fair (data_r i m d) = Unit {0}

  -- whatever a reader gives is fair
  record Gives (m : Reader (FieldRec Identifier)) : Type 0 where
    all : (s : Bytes) (at : ℕ) (y : FieldRec Identifier) (q : ℕ) → m s at ≡ got y q → Fair y

  gives : (f : FieldRec Identifier) → Fair f → Gives (give f)
  gives f p = record { all = λ s at y q e. let z : f ≡ y = cc in subst Fair z p }

  -- after any reader
  after : {A : Type 0} (m : Reader A) (k : A → Reader (FieldRec Identifier)) → ((a : A) → Gives (k a)) → Gives (m >>= k)
  after m k h = record { all = λ s at y q e. let c = came (m s at) e in (h c.value).all s c.next y q c.rest }

  -- after a test
  tested : (n : ℕ) (t : Bool) (m : Reader (FieldRec Identifier)) → (t ≡ true → Gives m) → Gives (require n t >>= λ _. m)
  tested n t m h = record { all = λ s at y q e. let c = passed _ n t s at e in (h c.0).all s at y q c.1 }

  -- every row of a table, and what is chosen from it
  abbrev Rows : List (ℕ × Reader (FieldRec Identifier)) → Type 0
  Rows [] = Unit {0}
  Rows (row ∷ rows) = Gives row.1 × Rows rows

  chosen : (b : ℕ) (rows : List (ℕ × Reader (FieldRec Identifier))) → Rows rows → Gives (choose b rows)
  chosen b [] g = record { all = λ s at y q e. let z : ◌≡◌ {A = ℕ} 0 1 = cc in absurd (omega arith) }
  chosen b (row ∷ rows) g = go (eqb b row.0) (chosen b rows g.1)
    where
      go : (t : Bool) → Gives (choose b rows) → Gives (if t then row.1 else choose b rows)
      go true h = g.0
      go false h = h

  type_fair : Gives (type_rec room)
  unfolding type_rec
  type_fair =
      tested 7 (room.item types) _ (λ free.
      after identifier _ (λ i.
      after (counted 64 val_type) _ (λ ps.
      after (counted 16 val_type) _ (λ rs. gives (type_r i (record { params = ps; results = rs })) free))))

  import_of_lem : (n : ImportName) (k : Space) (extern : Reader Extern) → Gives (import_of room n k extern)
  unfolding import_of
  import_of_lem n k extern = tested 7 (room.item k) _ (λ free. after identifier _ (λ i. after extern _ (λ d. gives (import_r n i d) tt)))

  import_fair : Gives (import_rec room)
  unfolding import_rec
  import_fair =
      after import_name _ (λ n.
      after byte _ (λ b.
      chosen b
      ((0, import_of room n funcs func_extern)
      ∷ (1, import_of room n tables table_extern)
      ∷ (2, import_of room n mems mem_extern)
      ∷ (3, import_of room n globals global_extern)
      ∷ [])
      (import_of_lem n funcs func_extern, (import_of_lem n tables table_extern, (import_of_lem n mems mem_extern, (import_of_lem n globals global_extern, tt))))))

  item_fair : (k : Space) (forms : Forms) → Gives (item_rec room k forms)
  unfolding item_rec
  item_fair k forms =
      tested 7 (room.item k) _ (λ free.
      after identifier _ (λ i. after (counted 8 string) _ (λ es. after byte _ (λ b. after (choose b forms) _ (λ x. gives (item_r i es x) tt)))))

  func_fair : Gives (func_rec room)
  unfolding func_rec
  func_fair = item_fair funcs _

  table_fair : Gives (table_rec room)
  unfolding table_rec
  table_fair = item_fair tables _

  mem_fair : Gives (mem_rec room)
  unfolding mem_rec
  mem_fair = item_fair mems _

  global_fair : Gives (global_rec room)
  unfolding global_rec
  global_fair = item_fair globals _

  export_fair : Gives export_rec
  unfolding export_rec
  export_fair = after string _ (λ n. after kind _ (λ k. after present _ (λ x. gives (export_r n k x) tt)))

  start_fair : Gives (start_rec room)
  unfolding start_rec
  start_fair = after (require 9 room.start >> present) _ (λ x. gives (start_r x) tt)

  elem_fair : Gives (elem_rec room)
  unfolding elem_rec
  elem_fair =
      tested 7 (room.item elems) _ (λ free. after identifier _ (λ i. after mode _ (λ m. after (counted 1024 present) _ (λ xs. gives (elem_r i m xs) tt))))

  data_fair : Gives (data_rec room)
  unfolding data_rec
  data_fair = tested 7 (room.item datas) _ (λ free. after identifier _ (λ i. after mode _ (λ m. after bytes _ (λ d. gives (data_r i m d) tt))))

  field_fair : Gives (field_rec room)
  unfolding field_rec field_recs
  field_fair =
      after byte _ (λ b.
      chosen b (field_recs room)
      (type_fair, (import_fair, (func_fair, (table_fair, (mem_fair, (global_fair, (export_fair, (start_fair, (elem_fair, (data_fair, tt)))))))))))

  pub type-room : (s : Bytes) (at : ℕ) (i : Option Identifier) (t : FuncType) (next : ℕ) → field_rec room s at ≡ got (type_r i t) next → room.item types ≡ true
  type-room s at i t next e = field_fair.all s at (type_r i t) next e
