-- The identifiers of a stream's records in place order, each with its kind. Not among them are those that have no effect: the identifiers of
-- the parameters of an import, a block and a call_indirect.
use Rattle.std.specs.Prelude.{ℕ, ◌+◌, List, [], ◌∷◌, ◌++◌}
use Rattle.std.proofs.Math.Option.{Option, none, some}
use Rattle.definition.specs.Basic.{concat_map}
use Rattle.definition.specs.Syntax.{Space, funcs, tables, mems, types, elems, datas, ExternType, func, table, mem, global, Mode, passive, active}
use Rattle.definition.specs.Syntax.{Index, absent, number, named, own_index, Local, TypeUse, Own, own_func, own_table, own_mem, own_global}
use Rattle.definition.specs.Syntax.{Operand, nothing, label, labels, local, item, items, access, int32, int64, raw, Plain, Instr, opens, elses, ends, indirect, plain}
use Rattle.definition.specs.Syntax.{Source, own, imported, table_of, mem_of, FieldRec, type_r, import_r, item_r, export_r, start_r, elem_r, data_r, Rec, field, instr, folded, body_end}
use Rattle.definition.specs.Spaces.{extern_space, source_space}

-- an index space; the parameters and locals, or the labels, of the function at a record
pub data Kind : Type 0 where
  in_space : Space → Kind
  local_of : ℕ → Kind
  label_of : ℕ → Kind

abbrev pub Names : Type 0 → Type 0
Names I = List (Kind × I)

module _ {I : Type 0} where
  unfoldable pub id_names : Kind → Option I → Names I
  id_names k none = []
  id_names k (some i) = (k, i) ∷ []

  unfoldable pub index_names : Kind → Index I → Names I
  index_names k absent = []
  index_names k (number n) = []
  index_names k (named i) = (k, i) ∷ []
  index_names k (own_index n) = []

  unfoldable pub indices_names : Kind → List (Index I) → Names I
  indices_names k xs = concat_map (index_names k) xs

  unfoldable pub items_names : List (Space × Index I) → Names I
  items_names xs = concat_map (λ x. index_names (in_space x.0) x.1) xs

  unfoldable pub local_names : ℕ → List (Local I) → Names I
  local_names r ls = concat_map (λ l. id_names (local_of r) l.id) ls

  unfoldable pub type_names : TypeUse I → Names I
  type_names t = index_names (in_space types) t.index

  -- in the function at record r
  unfoldable pub operand_names : ℕ → Operand I → Names I
  operand_names r nothing = []
  operand_names r (label x) = index_names (label_of r) x
  operand_names r (labels xs x) = indices_names (label_of r) xs ++ index_names (label_of r) x
  operand_names r (local x) = index_names (local_of r) x
  operand_names r (item k x) = index_names (in_space k) x
  operand_names r (items b xs) = items_names xs
  operand_names r (access e o x) = index_names (in_space mems) x
  operand_names r (int32 n) = []
  operand_names r (int64 n) = []
  operand_names r (raw bs) = []

  unfoldable pub instr_names : ℕ → Instr I → Names I
  instr_names r (opens op l t) = id_names (label_of r) l ++ type_names t
  instr_names r (elses l) = id_names (label_of r) l
  instr_names r (ends l) = id_names (label_of r) l
  instr_names r (indirect x t) = index_names (in_space tables) x ++ type_names t
  instr_names r (plain p) = operand_names r p.operand

  unfoldable pub extern_names : ExternType (TypeUse I) → Names I
  extern_names (func t) = type_names t
  extern_names (table t) = []
  extern_names (mem l) = []
  extern_names (global g) = []

  unfoldable pub own_names : ℕ → Own I → Names I
  own_names r (own_func t ls) = type_names t ++ local_names r t.params ++ local_names r ls
  own_names r (own_table t) = []
  own_names r (own_mem l) = []
  own_names r (own_global t c) = operand_names r c.operand

  unfoldable pub source_names : ℕ → Source I → Names I
  source_names r (own o) = own_names r o
  source_names r (imported n d) = extern_names d
  source_names r (table_of w xs) = indices_names (in_space funcs) xs
  source_names r (mem_of w d) = []

  unfoldable pub mode_names : ℕ → Space → Mode (Index I) (Plain I) → Names I
  mode_names r k passive = []
  mode_names r k (active x c) = index_names (in_space k) x ++ operand_names r c.operand

  unfoldable pub field_names : ℕ → FieldRec I → Names I
  field_names r (type_r i t) = id_names (in_space types) i
  field_names r (import_r n i d) = id_names (in_space (extern_space d)) i ++ extern_names d
  field_names r (item_r i es x) = id_names (in_space (source_space x)) i ++ source_names r x
  field_names r (export_r n k x) = index_names (in_space k) x
  field_names r (start_r x) = index_names (in_space funcs) x
  field_names r (elem_r i m xs) = id_names (in_space elems) i ++ mode_names r tables m ++ indices_names (in_space funcs) xs
  field_names r (data_r i m d) = id_names (in_space datas) i ++ mode_names r mems m

  -- the next record is at r; `f` is the last field record before it, whose body an instruction belongs to
  unfoldable pub names_from : ℕ → ℕ → List (Rec I) → Names I
  names_from f r [] = []
  names_from f r (field x ∷ rs) = field_names r x ++ names_from r (r + 1) rs
  names_from f r (instr x ∷ rs) = instr_names f x ++ names_from f (r + 1) rs
  names_from f r (folded x n ∷ rs) = instr_names f x ++ names_from f (r + 1) rs
  names_from f r (body_end ∷ rs) = names_from f (r + 1) rs

  unfoldable pub names : List (Rec I) → Names I
  names rs = names_from 0 0 rs
