-- What no identifier can change: de-inlining, import order and types commute with `map_rec f`, or do not see it at all.
use Rattle.std.specs.Prelude.{if◌then◌else◌}
use mathlib.Core.Path.{◌≡◌, refl, ap}
use Prim.Native.Nat.{ℕ, zero, suc, ◌+◌, ◌-◌}
use mathlib.Core.Bool.{Bool, true, false}
use mathlib.Core.List.{List, [], ◌∷◌, ◌++◌, map, map-append, map-map, tail}
use mathlib.Core.Option.{Option, none, some}
use lib.Dec.{leb}
use lib.ListN.{length-map, replicate}
use Rattle.definition.specs.Basic.{at}
use Rattle.definition.specs.Syntax.{Bytes, Space, same_space, FuncType, ExternType, func, table, mem, global, TypeNo, Index, absent, number, own_index, named, Local, TypeUse}
use Rattle.definition.specs.Syntax.{Instr, opens, elses, ends, indirect, plain, Own, own_func, own_table, own_mem, own_global, Source, own, imported, table_of, mem_of}
use Rattle.definition.specs.Syntax.{FieldRec, type_r, import_r, item_r, export_r, start_r, elem_r, data_r, Rec, field, instr, folded, body_end}
use Rattle.definition.specs.Syntax.{Body, Field, type_f, import_f, own_f, export_f, start_f, elem_f, data_f}
use Rattle.definition.specs.Spaces.{extern_space, own_space, source_space, segments, brings, count}
use Rattle.definition.specs.Folded.{Waiting, follow, still, flatten, body_of}
use Rattle.definition.specs.Deinline.{zero_offset, source_fields, fields_of, Numbered, deinline_from, imports_from}
use Rattle.definition.specs.Types.{signature, is_inline, is_short, unless_indexed, use_of, instr_uses, body_uses, extern_uses, own_uses, field_uses, uses, declared_by, declared, all_types}
use Rattle.definition.specs.Names.{Namespace, Items, space, definers, item_of, is_absent, param_count, param_names, locals_of, blocks_after}
use Rattle.renaming.specs.Shape.{map_id, map_index, map_local, map_type_use, map_plain, map_instr, map_extern, map_own, map_source, map_mode, map_field_rec, map_rec}

-- ## The map on fields, namespaces and items

module _ {I J : Type 0} (f : I → J) where
  abbrev pub map_body : Body I → Body J
  map_body = map (λ x. (x.0, map_instr f x.1))

  abbrev pub map_field : Field I → Field J
  map_field (type_f i t) = type_f (map_id f i) t
  map_field (import_f n i d) = import_f n (map_id f i) (map_extern f d)
  map_field (own_f i o b) = own_f (map_id f i) (map_own f o) (map_body b)
  map_field (export_f n k x) = export_f n k (map_index f x)
  map_field (start_f x) = start_f (map_index f x)
  map_field (elem_f i m xs) = elem_f (map_id f i) (map_mode f m) (map (map_index f) xs)
  map_field (data_f i m d) = data_f (map_id f i) (map_mode f m) d

  abbrev pub map_numbered : Numbered I → Numbered J
  map_numbered = map (λ x. (x.0, map_field x.1))

  abbrev pub map_all : Namespace I → Namespace J
  map_all = map (map_id f)

  abbrev pub map_item : Space × Option I → Space × Option J
  map_item x = (x.0, map_id f x.1)

  abbrev pub map_item? : Option (Space × Option I) → Option (Space × Option J)
  map_item? none = none
  map_item? (some x) = some (map_item x)

  -- an item and the record that defined it
  abbrev pub map_defined : ℕ × Space × Option I → ℕ × Space × Option J
  map_defined x = (x.0, x.1, map_id f x.2)

  abbrev pub map_items : Items I → Items J
  map_items = map map_defined

  -- ## Types and type uses

  pub types-map : (ls : List (Local I)) → map (λ p. p.type) (map (map_local f) ls) ≡ map (λ p. p.type) ls
  types-map ls = simp map-map

  pub signature-map : (t : TypeUse I) → signature (map_type_use f t) ≡ signature t
  unfolding signature
  signature-map t = rw types-map

  pub is_inline-map : (t : TypeUse I) → is_inline (map_type_use f t) ≡ is_inline t
  unfolding is_inline
  is_inline-map t = rw length-map

  pub is_short-map : (t : TypeUse I) → is_short (map_type_use f t) ≡ is_short t
  unfolding is_short
  is_short-map t = rw length-map

  pub is_absent-map : (x : Index I) → is_absent (map_index f x) ≡ is_absent x
  unfolding is_absent
  is_absent-map absent = refl
  is_absent-map (number n) = refl
  is_absent-map (named i) = refl
  is_absent-map (own_index n) = refl

  unless_indexed-map : (s : FuncType) (x : Index I) → unless_indexed s (map_index f x) ≡ unless_indexed s x
  unless_indexed-map s absent = refl
  unless_indexed-map s (number n) = refl
  unless_indexed-map s (named i) = refl
  unless_indexed-map s (own_index n) = refl

  use_of-map : (t : TypeUse I) → use_of (map_type_use f t) ≡ use_of t
  unfolding use_of
  use_of-map t = rw (signature-map t) (unless_indexed-map (signature t) t.index)

  instr_uses-map : (x : Instr I) → instr_uses (map_instr f x) ≡ instr_uses x
  unfolding instr_uses
  instr_uses-map (opens op l t) = rw (is_short-map t, use_of-map t)
  instr_uses-map (elses l) = refl
  instr_uses-map (ends l) = refl
  instr_uses-map (indirect x t) = use_of-map t
  instr_uses-map (plain p) = refl

  body_uses-map : (xs : Body I) → body_uses (map_body xs) ≡ body_uses xs
  unfolding body_uses
  body_uses-map [] = refl
  body_uses-map ((r, x) ∷ xs) = rw (instr_uses-map x, body_uses-map xs)

  extern_uses-map : (d : ExternType (TypeUse I)) → extern_uses (map_extern f d) ≡ extern_uses d
  unfolding extern_uses
  extern_uses-map (func t) = use_of-map t
  extern_uses-map (table t) = refl
  extern_uses-map (mem l) = refl
  extern_uses-map (global g) = refl

  own_uses-map : (o : Own I) → own_uses (map_own f o) ≡ own_uses o
  unfolding own_uses
  own_uses-map (own_func t ls) = use_of-map t
  own_uses-map (own_table t) = refl
  own_uses-map (own_mem l) = refl
  own_uses-map (own_global t c) = refl

  field_uses-map : (r : ℕ) (x : Field I) → field_uses r (map_field x) ≡ field_uses r x
  unfolding field_uses
  field_uses-map r (type_f i t) = refl
  field_uses-map r (import_f n i d) = rw (extern_uses-map d)
  field_uses-map r (own_f i o b) = rw (own_uses-map o, body_uses-map b)
  field_uses-map r (export_f n k x) = refl
  field_uses-map r (start_f x) = refl
  field_uses-map r (elem_f i m xs) = refl
  field_uses-map r (data_f i m d) = refl

  uses-map : (fs : Numbered I) → uses (map_numbered fs) ≡ uses fs
  unfolding uses
  uses-map [] = refl
  uses-map ((r, x) ∷ fs) = rw (field_uses-map r x, uses-map fs)

  declared_by-map : (x : Field I) → declared_by (map_field x) ≡ declared_by x
  unfolding declared_by
  declared_by-map (type_f i t) = refl
  declared_by-map (import_f n i d) = refl
  declared_by-map (own_f i o b) = refl
  declared_by-map (export_f n k x) = refl
  declared_by-map (start_f x) = refl
  declared_by-map (elem_f i m xs) = refl
  declared_by-map (data_f i m d) = refl

  pub declared-map : (fs : Numbered I) → declared (map_numbered fs) ≡ declared fs
  unfolding declared
  declared-map [] = refl
  declared-map ((r, x) ∷ fs) = rw (declared_by-map x, declared-map fs)

  pub all_types-map : (fs : Numbered I) → all_types (map_numbered fs) ≡ all_types fs
  unfolding all_types
  all_types-map fs = rw (declared-map fs, uses-map fs)

  -- ## Spaces

  pub extern_space-map : (d : ExternType (TypeUse I)) → extern_space (map_extern f d) ≡ extern_space d
  unfolding extern_space
  extern_space-map (func t) = refl
  extern_space-map (table t) = refl
  extern_space-map (mem l) = refl
  extern_space-map (global g) = refl

  own_space-map : (o : Own I) → own_space (map_own f o) ≡ own_space o
  unfolding own_space
  own_space-map (own_func t ls) = refl
  own_space-map (own_table t) = refl
  own_space-map (own_mem l) = refl
  own_space-map (own_global t c) = refl

  pub source_space-map : (x : Source I) → source_space (map_source f x) ≡ source_space x
  unfolding source_space
  source_space-map (own o) = own_space-map o
  source_space-map (imported n d) = extern_space-map d
  source_space-map (table_of w xs) = refl
  source_space-map (mem_of w d) = refl

  segments-map : (x : Source I) → segments (map_source f x) ≡ segments x
  unfolding segments
  segments-map (own o) = refl
  segments-map (imported n d) = refl
  segments-map (table_of w xs) = refl
  segments-map (mem_of w d) = refl

  brings-map : (x : FieldRec I) → brings (map_field_rec f x) ≡ brings x
  unfolding brings
  brings-map (type_r i t) = refl
  brings-map (import_r n i d) = rw (extern_space-map d)
  brings-map (item_r i es x) = rw (source_space-map x, segments-map x)
  brings-map (export_r n k x) = refl
  brings-map (start_r x) = refl
  brings-map (elem_r i m xs) = refl
  brings-map (data_r i m d) = refl

  pub item_of-map : (x : Field I) → item_of (map_field x) ≡ map_item? (item_of x)
  unfolding item_of
  item_of-map (type_f i t) = refl
  item_of-map (import_f n i d) = rw (extern_space-map d)
  item_of-map (own_f i o b) = rw (own_space-map o)
  item_of-map (export_f n k x) = refl
  item_of-map (start_f x) = refl
  item_of-map (elem_f i m xs) = refl
  item_of-map (data_f i m d) = refl

  -- ## Namespaces

  one_map : (t : Bool) (i : Option I) → (if t then map_id f i ∷ [] else []) ≡ map_all (if t then i ∷ [] else [])
  one_map true i = refl
  one_map false i = refl

  pub space-map : (k : Space) (xs : Items I) → space k (map_items xs) ≡ map_all (space k xs)
  unfolding space
  space-map k [] = refl
  space-map k ((r, j, i) ∷ xs) = rw (one_map (same_space k j) i, space-map k xs, map-append)

  pub definers-map : (k : Space) (xs : Items I) → definers k (map_items xs) ≡ definers k xs
  unfolding definers
  definers-map k [] = refl
  definers-map k ((r, j, i) ∷ xs) = rw (definers-map k xs)

  ids_map : (ls : List (Local I)) → map (λ p. p.id) (map (map_local f) ls) ≡ map_all (map (λ p. p.id) ls)
  ids_map ls = simp map-map

  nameless-map : (n : ℕ) → replicate n none ≡ map_all (replicate n none)
  nameless-map zero = refl
  nameless-map (suc n) = ap (λ xs. none ∷ xs) (nameless-map n)

  choice_map : (t : Bool) (xs ys : Namespace I) → (if t then map_all xs else map_all ys) ≡ map_all (if t then xs else ys)
  choice_map true xs ys = refl
  choice_map false xs ys = refl

  param_names-map : (ts : List FuncType) (n : TypeNo) (t : TypeUse I) → param_names ts n (map_type_use f t) ≡ map_all (param_names ts n t)
  unfolding param_names
  param_names-map ts n t = rw (is_inline-map t, ids_map t.params, nameless-map (param_count (at ts n.type_no))) (choice_map (is_inline t) _ _)

  pub locals_of-map : (ts : List FuncType) (n : TypeNo) (t : TypeUse I) (ls : List (Local I))
      → locals_of ts n (map_type_use f t) (map (map_local f) ls) ≡ map_all (locals_of ts n t ls)
  unfolding locals_of
  locals_of-map ts n t ls = rw (param_names-map ts n t, ids_map ls, map-append)

  tail_map : (ns : Namespace I) → tail (map_all ns) ≡ map_all (tail ns)
  tail_map [] = refl
  tail_map (x ∷ ns) = refl

  pub blocks_after-map : (blocks : Namespace I) (x : Instr I) → blocks_after (map_all blocks) (map_instr f x) ≡ map_all (blocks_after blocks x)
  unfolding blocks_after
  blocks_after-map blocks (opens op l t) = refl
  blocks_after-map blocks (elses l) = refl
  blocks_after-map blocks (ends l) = tail_map blocks
  blocks_after-map blocks (indirect x t) = refl
  blocks_after-map blocks (plain p) = refl

  -- ## Import order

  pub imports_from-map : (late : Bool) (fs : Numbered I) → imports_from late (map_numbered fs) ≡ imports_from late fs
  unfolding imports_from
  imports_from-map late [] = refl
  imports_from-map true ((r, import_f n i d) ∷ fs) = refl
  imports_from-map false ((r, import_f n i d) ∷ fs) = imports_from-map false fs
  imports_from-map late ((r, own_f i o b) ∷ fs) = imports_from-map true fs
  imports_from-map late ((r, type_f i t) ∷ fs) = imports_from-map late fs
  imports_from-map late ((r, export_f n k x) ∷ fs) = imports_from-map late fs
  imports_from-map late ((r, start_f x) ∷ fs) = imports_from-map late fs
  imports_from-map late ((r, elem_f i m xs) ∷ fs) = imports_from-map late fs
  imports_from-map late ((r, data_f i m d) ∷ fs) = imports_from-map late fs

  -- ## De-inlining

  zero_offset-map : (w : Bool) → zero_offset w ≡ map_plain f (zero_offset w)
  unfolding zero_offset
  zero_offset-map true = refl
  zero_offset-map false = refl

  source_fields-map : (i : Option I) (n : ℕ) (x : Source I) (b : Body I)
      → source_fields (map_id f i) n (map_source f x) (map_body b) ≡ map map_field (source_fields i n x b)
  unfolding source_fields
  source_fields-map i n (own o) b = refl
  source_fields-map i n (imported m d) b = refl
  source_fields-map i n (table_of w xs) b = rw (zero_offset-map w, length-map)
  source_fields-map i n (mem_of w d) b = rw (zero_offset-map w)

  exports_map : (k : Space) (n : ℕ) (es : List Bytes) → map (λ e. export_f e k (own_index n)) es ≡ map map_field (map (λ e. export_f e k (own_index n)) es)
  exports_map k n es = simp map-map

  fields_of-map : (next : Space → ℕ) (x : FieldRec I) (b : Body I)
      → fields_of next (map_field_rec f x) (map_body b) ≡ map map_field (fields_of next x b)
  unfolding fields_of
  fields_of-map next (type_r i t) b = refl
  fields_of-map next (import_r n i d) b = refl
  fields_of-map next (item_r i es x) b =
      let n = next (source_space x) in
      rw (source_space-map x, source_fields-map i n x b, map-append)
      (ap (λ xs. xs ++ map map_field (source_fields i n x b)) (exports_map (source_space x) n es))
  fields_of-map next (export_r n k x) b = refl
  fields_of-map next (start_r x) b = refl
  fields_of-map next (elem_r i m xs) b = refl
  fields_of-map next (data_r i m d) b = refl

  abbrev map_waiting : Waiting I → Waiting J
  map_waiting = map (λ x. (x.0, x.1, map_instr f x.2))

  follow-map : (ws : Waiting I) → follow (map_waiting ws) ≡ map_body (follow ws)
  unfolding follow
  follow-map [] = refl
  follow-map ((n, r, x) ∷ ws) = go (leb n 1) (follow-map ws)
    where
      go : (t : Bool) → follow (map_waiting ws) ≡ map_body (follow ws)
          → (if t then (r, map_instr f x) ∷ follow (map_waiting ws) else []) ≡ map_body (if t then (r, x) ∷ follow ws else [])
      go true e = rw e
      go false e = refl

  still-map : (ws : Waiting I) → still (map_waiting ws) ≡ map_waiting (still ws)
  unfolding still
  still-map [] = refl
  still-map ((n, r, x) ∷ ws) = go (leb n 1) (still-map ws)
    where
      go : (t : Bool) → still (map_waiting ws) ≡ map_waiting (still ws)
          → (if t then still (map_waiting ws) else (n - 1, r, map_instr f x) ∷ map_waiting ws) ≡ map_waiting (if t then still ws else (n - 1, r, x) ∷ ws)
      go true e = e
      go false e = refl

  flatten-map : (r : ℕ) (ws : Waiting I) (rs : List (Rec I)) → flatten r (map_waiting ws) (map (map_rec f) rs) ≡ map_body (flatten r ws rs)
  unfolding flatten
  flatten-map r ws [] = refl
  flatten-map r ws (field x ∷ rs) = refl
  flatten-map r ws (instr x ∷ rs) = ap (λ xs. (r, map_instr f x) ∷ xs) (flatten-map (r + 1) ws rs)
  flatten-map r ws (folded x zero ∷ rs) = rw (follow-map ws, still-map ws, flatten-map (r + 1) (still ws) rs, map-append)
  flatten-map r ws (folded x (suc n) ∷ rs) = flatten-map (r + 1) ((suc n, r, x) ∷ ws) rs
  flatten-map r ws (body_end ∷ rs) = refl

  body_of-map : (r : ℕ) (rs : List (Rec I)) → body_of r (map (map_rec f) rs) ≡ map_body (body_of r rs)
  unfolding body_of
  body_of-map r rs = flatten-map r [] rs

  at_record_map : (r : ℕ) (fs : List (Field I)) → map (λ x. (r, x)) (map map_field fs) ≡ map_numbered (map (λ x. (r, x)) fs)
  at_record_map r fs = simp map-map

  pub deinline_from-map : (r : ℕ) (seen : List Space) (rs : List (Rec I))
      → deinline_from r seen (map (map_rec f) rs) ≡ map_numbered (deinline_from r seen rs)
  unfolding deinline_from
  deinline_from-map r seen [] = refl
  deinline_from-map r seen (field x ∷ rs) =
      let fs = fields_of (λ k. count k seen) x (body_of (r + 1) rs) in
      rw (body_of-map (r + 1) rs, fields_of-map (λ k. count k seen) x (body_of (r + 1) rs), brings-map x, at_record_map r fs, deinline_from-map (r + 1) (brings x ++ seen) rs, map-append)
  deinline_from-map r seen (instr x ∷ rs) = deinline_from-map (r + 1) seen rs
  deinline_from-map r seen (folded x n ∷ rs) = deinline_from-map (r + 1) seen rs
  deinline_from-map r seen (body_end ∷ rs) = deinline_from-map (r + 1) seen rs
