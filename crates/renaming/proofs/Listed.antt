-- The names of `map_rec f` of some records are f of their names, with the same kinds in the same places.
use mathlib.Core.Path.{◌≡◌, refl}
use Prim.Native.Nat.{ℕ, ◌+◌}
use mathlib.Core.List.{List, [], ◌∷◌, map, map-append}
use mathlib.Core.Option.{Option, none, some}
use Rattle.definition.specs.Basic.{concat_map}
use Rattle.definition.specs.Syntax.{Space, funcs, tables, mems, types, ExternType, func, table, mem, global, Mode, passive, active}
use Rattle.definition.specs.Syntax.{Index, absent, number, named, own_index, Local, TypeUse, Own, own_func, own_table, own_mem, own_global}
use Rattle.definition.specs.Syntax.{Operand, nothing, label, labels, local, item, items, access, int32, int64, raw, Plain, Instr, opens, elses, ends, indirect, plain}
use Rattle.definition.specs.Syntax.{Source, own, imported, table_of, mem_of, FieldRec, type_r, import_r, item_r, export_r, start_r, elem_r, data_r, Rec, field, instr, folded, body_end}
use Rattle.renaming.specs.Shape.{map_id, map_index, map_pair, map_local, map_type_use, map_operand, map_instr, map_extern, map_own, map_source, map_mode, map_field_rec, map_rec}
use Rattle.renaming.specs.Kinds.{Kind, in_space, local_of, label_of, Names, id_names, index_names, indices_names, items_names, local_names, type_names, operand_names, instr_names, extern_names, own_names, source_names, mode_names, field_names, names_from, names}
use Rattle.renaming.proofs.Maps.{extern_space-map, source_space-map}

module _ {I J : Type 0} (f : I → J) where
  abbrev pub map_names : Names I → Names J
  map_names = map (λ x. (x.0, f x.1))

  id_names-map : (k : Kind) (i : Option I) → id_names k (map_id f i) ≡ map_names (id_names k i)
  unfolding id_names
  id_names-map k none = refl
  id_names-map k (some i) = refl

  index_names-map : (k : Kind) (x : Index I) → index_names k (map_index f x) ≡ map_names (index_names k x)
  unfolding index_names
  index_names-map k absent = refl
  index_names-map k (number n) = refl
  index_names-map k (named i) = refl
  index_names-map k (own_index n) = refl

  indices_names-map : (k : Kind) (xs : List (Index I)) → indices_names k (map (map_index f) xs) ≡ map_names (indices_names k xs)
  unfolding indices_names concat_map
  indices_names-map k [] = refl
  indices_names-map k (x ∷ xs) = rw (index_names-map k x, indices_names-map k xs, map-append)

  items_names-map : (xs : List (Space × Index I)) → items_names (map (map_pair f) xs) ≡ map_names (items_names xs)
  unfolding items_names concat_map
  items_names-map [] = refl
  items_names-map ((k, x) ∷ xs) = rw (index_names-map (in_space k) x, items_names-map xs, map-append)

  local_names-map : (r : ℕ) (ls : List (Local I)) → local_names r (map (map_local f) ls) ≡ map_names (local_names r ls)
  unfolding local_names concat_map
  local_names-map r [] = refl
  local_names-map r (l ∷ ls) = rw (id_names-map (local_of r) l.id, local_names-map r ls, map-append)

  type_names-map : (t : TypeUse I) → type_names (map_type_use f t) ≡ map_names (type_names t)
  unfolding type_names
  type_names-map t = index_names-map (in_space types) t.index

  operand_names-map : (r : ℕ) (o : Operand I) → operand_names r (map_operand f o) ≡ map_names (operand_names r o)
  unfolding operand_names
  operand_names-map r nothing = refl
  operand_names-map r (label x) = index_names-map (label_of r) x
  operand_names-map r (labels xs x) = rw (indices_names-map (label_of r) xs, index_names-map (label_of r) x, map-append)
  operand_names-map r (local x) = index_names-map (local_of r) x
  operand_names-map r (item k x) = index_names-map (in_space k) x
  operand_names-map r (items b xs) = items_names-map xs
  operand_names-map r (access e o x) = index_names-map (in_space mems) x
  operand_names-map r (int32 n) = refl
  operand_names-map r (int64 n) = refl
  operand_names-map r (raw bs) = refl

  instr_names-map : (r : ℕ) (x : Instr I) → instr_names r (map_instr f x) ≡ map_names (instr_names r x)
  unfolding instr_names
  instr_names-map r (opens op l t) = rw (id_names-map (label_of r) l, type_names-map t, map-append)
  instr_names-map r (elses l) = id_names-map (label_of r) l
  instr_names-map r (ends l) = id_names-map (label_of r) l
  instr_names-map r (indirect x t) = rw (index_names-map (in_space tables) x, type_names-map t, map-append)
  instr_names-map r (plain p) = operand_names-map r p.operand

  extern_names-map : (d : ExternType (TypeUse I)) → extern_names (map_extern f d) ≡ map_names (extern_names d)
  unfolding extern_names
  extern_names-map (func t) = type_names-map t
  extern_names-map (table t) = refl
  extern_names-map (mem l) = refl
  extern_names-map (global g) = refl

  own_names-map : (r : ℕ) (o : Own I) → own_names r (map_own f o) ≡ map_names (own_names r o)
  unfolding own_names
  own_names-map r (own_func t ls) = rw (type_names-map t, local_names-map r t.params, local_names-map r ls, map-append, map-append)
  own_names-map r (own_table t) = refl
  own_names-map r (own_mem l) = refl
  own_names-map r (own_global t c) = operand_names-map r c.operand

  source_names-map : (r : ℕ) (x : Source I) → source_names r (map_source f x) ≡ map_names (source_names r x)
  unfolding source_names
  source_names-map r (own o) = own_names-map r o
  source_names-map r (imported n d) = extern_names-map d
  source_names-map r (table_of w xs) = indices_names-map (in_space funcs) xs
  source_names-map r (mem_of w d) = refl

  mode_names-map : (r : ℕ) (k : Space) (m : Mode (Index I) (Plain I)) → mode_names r k (map_mode f m) ≡ map_names (mode_names r k m)
  unfolding mode_names
  mode_names-map r k passive = refl
  mode_names-map r k (active x c) = rw (index_names-map (in_space k) x, operand_names-map r c.operand, map-append)

  field_names-map : (r : ℕ) (x : FieldRec I) → field_names r (map_field_rec f x) ≡ map_names (field_names r x)
  unfolding field_names
  field_names-map r (type_r i t) = id_names-map (in_space types) i
  field_names-map r (import_r n i d) = rw (extern_space-map f d, id_names-map _ i, extern_names-map d, map-append)
  field_names-map r (item_r i es x) = rw (source_space-map f x, id_names-map _ i, source_names-map r x, map-append)
  field_names-map r (export_r n k x) = index_names-map (in_space k) x
  field_names-map r (start_r x) = index_names-map (in_space funcs) x
  field_names-map r (elem_r i m xs) = rw (id_names-map _ i, mode_names-map r tables m, indices_names-map (in_space funcs) xs, map-append, map-append)
  field_names-map r (data_r i m d) = rw (id_names-map _ i, mode_names-map r mems m, map-append)

  names_from-map : (q r : ℕ) (rs : List (Rec I)) → names_from q r (map (map_rec f) rs) ≡ map_names (names_from q r rs)
  unfolding names_from
  names_from-map q r [] = refl
  names_from-map q r (field x ∷ rs) = rw (field_names-map r x, names_from-map r (r + 1) rs, map-append)
  names_from-map q r (instr x ∷ rs) = rw (instr_names-map q x, names_from-map q (r + 1) rs, map-append)
  names_from-map q r (folded x n ∷ rs) = rw (instr_names-map q x, names_from-map q (r + 1) rs, map-append)
  names_from-map q r (body_end ∷ rs) = names_from-map q (r + 1) rs

  pub names-map : (rs : List (Rec I)) → names (map (map_rec f) rs) ≡ map_names (names rs)
  unfolding names
  names-map rs = names_from-map 0 0 rs
