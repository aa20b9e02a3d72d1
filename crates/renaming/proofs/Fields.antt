-- The names of some records are those of their fields.
use Rattle.std.specs.Prelude.{if◌then◌else◌}
use mathlib.Core.Path.{◌≡◌, refl}
use Prim.Native.Nat.{ℕ, zero, suc, ◌+◌, ◌-◌}
use mathlib.Core.Bool.{Bool, true, false}
use mathlib.Core.List.{List, [], ◌∷◌, ◌++◌, map, map-append, append_assoc}
use mathlib.Core.Option.{Option, none, some}
use lib.Dec.{leb}
use Rattle.definition.specs.Basic.{concat_map}
use Rattle.definition.specs.Syntax.{Bytes, Space, own_index, Source, own, imported, table_of, mem_of}
use Rattle.definition.specs.Syntax.{FieldRec, type_r, import_r, item_r, export_r, start_r, elem_r, data_r, Rec, field, instr, folded, body_end, Body, Field, export_f}
use Rattle.definition.specs.Spaces.{own_space, source_space, brings, count}
use Rattle.definition.specs.Folded.{Waiting, follow, still, flatten, body_of}
use Rattle.definition.specs.Deinline.{zero_offset, source_fields, fields_of, Numbered, deinline_from}
use Rattle.definition.specs.Names.{item_of}
use Rattle.renaming.specs.Kinds.{Kind, in_space, Names, id_names, index_names, operand_names, instr_names, own_names, source_names, mode_names, field_names, names_from}
use Rattle.renaming.proofs.Every.{Every, parts, wholes, joined, nothing_said}
use Rattle.renaming.proofs.Same.{body_names, used_names}

module _ {P : Type 0} where
  abbrev pub item_names : Option (Space × Option P) → Names P
  item_names none = []
  item_names (some x) = id_names (in_space x.0) x.1

  unfoldable pub numbered_names : Numbered P → Names P
  numbered_names [] = []
  numbered_names ((r, x) ∷ fs) = item_names (item_of x) ++ used_names r x ++ numbered_names fs

  abbrev at_record : ℕ → List (Field P) → Numbered P
  at_record r xs = map (λ x. (r, x)) xs

  numbered_names_append : (xs ys : Numbered P) → numbered_names (xs ++ ys) ≡ numbered_names xs ++ numbered_names ys
  unfolding numbered_names
  numbered_names_append [] ys = refl
  numbered_names_append ((r, x) ∷ xs) ys = rw (numbered_names_append xs ys, append_assoc (item_names (item_of x) ++ used_names r x))

  -- the names of operators that wait for operands, in the function at record r
  abbrev waiting_names : ℕ → Waiting P → Names P
  waiting_names r ws = concat_map (λ x. instr_names r x.2) ws

  body_names_append : (r : ℕ) (xs ys : Body P) → body_names r (xs ++ ys) ≡ body_names r xs ++ body_names r ys
  unfolding body_names concat_map
  body_names_append r [] ys = refl
  body_names_append r (x ∷ xs) ys = rw (body_names_append r xs ys, append_assoc (instr_names r x.1))

module _ {P : Type 0} {M : Kind → P → Type 0} (r : ℕ) where
  of_follow : (ws : Waiting P) → Every M (waiting_names r ws) → Every M (body_names r (follow ws))
  unfolding follow body_names concat_map
  of_follow [] h = nothing_said
  of_follow ((n, q, x) ∷ ws) h = go (leb n 1) (of_follow ws (search parts))
    where
      go : (t : Bool) → Every M (body_names r (follow ws)) → Every M (body_names r (if t then (q, x) ∷ follow ws else []))
      go true w = search (wholes, parts)
      go false w = nothing_said

  of_still : (ws : Waiting P) → Every M (waiting_names r ws) → Every M (waiting_names r (still ws))
  unfolding still concat_map
  of_still [] h = nothing_said
  of_still ((n, q, x) ∷ ws) h = go (leb n 1) (of_still ws (search parts))
    where
      go : (t : Bool) → Every M (waiting_names r (still ws)) → Every M (waiting_names r (if t then still ws else (n - 1, q, x) ∷ ws))
      go true w = w
      go false w = h

  of_flat : (q : ℕ) (ws : Waiting P) (rs : List (Rec P)) → Every M (waiting_names r ws) → Every M (names_from r q rs) → Every M (body_names r (flatten q ws rs))
  unfolding names_from flatten body_names concat_map
  of_flat q ws [] v h = nothing_said
  of_flat q ws (field x ∷ rs) v h = nothing_said
  of_flat q ws (instr x ∷ rs) v h = let w = of_flat (q + 1) ws rs v (search parts) in search (wholes, parts)
  of_flat q ws (folded x zero ∷ rs) v h =
      let w : Every M (body_names r (follow ws ++ flatten (q + 1) (still ws) rs)) =
      rw body_names_append (joined (of_follow ws v) (of_flat (q + 1) (still ws) rs (of_still ws v) (search parts))) in
      search (wholes, parts)
  of_flat q ws (folded x (suc n) ∷ rs) v h = of_flat (q + 1) ((suc n, q, x) ∷ ws) rs (search (wholes, parts)) (search parts)
  of_flat q ws (body_end ∷ rs) v h = nothing_said

  of_body : (q : ℕ) (rs : List (Rec P)) → Every M (names_from r q rs) → Every M (body_names r (body_of q rs))
  unfolding body_of concat_map
  of_body q rs h = of_flat q [] rs nothing_said h

  of_exports : (k : Space) (n : ℕ) (es : List Bytes) → Every M (numbered_names (at_record r (map (λ e. export_f e k (own_index n)) es)))
  unfolding numbered_names item_of used_names index_names
  of_exports k n [] = nothing_said
  of_exports k n (e ∷ es) = of_exports k n es

  of_offset : (w : Bool) → Every M (operand_names r (zero_offset w).operand)
  unfolding zero_offset operand_names
  of_offset true = nothing_said
  of_offset false = nothing_said

  of_source : (i : Option P) (n : ℕ) (x : Source P) (b : Body P)
      → Every M (id_names (in_space (source_space x)) i) → Every M (source_names r x) → Every M (body_names r b)
      → Every M (numbered_names (at_record r (source_fields i n x b)))
  unfolding numbered_names item_of used_names source_space own_space source_names source_fields mode_names index_names own_names body_names concat_map id_names
  of_source i n (own o) b h g w = search wholes
  of_source i n (imported m d) b h g w = search wholes
  of_source i n (table_of wide xs) b h g w = search (wholes, of_offset)
  of_source i n (mem_of wide d) b h g w = search (wholes, of_offset)

  of_field : (next : Space → ℕ) (x : FieldRec P) (b : Body P) → Every M (field_names r x) → Every M (body_names r b)
      → Every M (numbered_names (at_record r (fields_of next x b)))
  unfolding field_names fields_of numbered_names item_of used_names
  of_field next (type_r i t) b h w = search wholes
  of_field next (import_r n i d) b h w = search (wholes, parts)
  of_field next (item_r i es x) b h w =
      let n = next (source_space x) in
      rw (map-append, numbered_names_append)
      (joined (of_exports (source_space x) n es) (of_source i n x b (search parts) (search parts) w))
  of_field next (export_r n k x) b h w = search wholes
  of_field next (start_r x) b h w = search wholes
  of_field next (elem_r i m xs) b h w = search (wholes, parts)
  of_field next (data_r i m d) b h w = search (wholes, parts)

pub of_fields : {P : Type 0} {M : Kind → P → Type 0} (f r : ℕ) (seen : List Space) (rs : List (Rec P))
    → Every M (names_from f r rs) → Every M (numbered_names (deinline_from r seen rs))
unfolding names_from deinline_from
of_fields f r seen [] h = unfold numbered_names in nothing_said
of_fields f r seen (field x ∷ rs) h =
    rw (numbered_names_append (at_record r (fields_of (λ k. count k seen) x (body_of (r + 1) rs))))
    (joined (of_field r (λ k. count k seen) x (body_of (r + 1) rs) (search parts) (of_body r (r + 1) rs (search parts)))
    (of_fields r (r + 1) (brings x ++ seen) rs (search parts)))
of_fields f r seen (instr x ∷ rs) h = of_fields f (r + 1) seen rs (search parts)
of_fields f r seen (folded x n ∷ rs) h = of_fields f (r + 1) seen rs (search parts)
of_fields f r seen (body_end ∷ rs) h = of_fields f (r + 1) seen rs h
