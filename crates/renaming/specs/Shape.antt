-- `map_rec f` puts f of each identifier in its place. The shape of some records says of an identifier only that it is there.
use Rattle.std.specs.Prelude.{List, map}
use Rattle.std.proofs.Math.Option.{Option, none, some}
use Rattle.definition.specs.Syntax.{Space, ExternType, func, table, mem, global, Mode, passive, active, Index, absent, number, named, own_index, Local, TypeUse}
use Rattle.definition.specs.Syntax.{Operand, nothing, label, labels, local, item, items, access, int32, int64, raw, Plain, Instr, opens, elses, ends, indirect, plain}
use Rattle.definition.specs.Syntax.{Own, own_func, own_table, own_mem, own_global, Source, own, imported, table_of, mem_of}
use Rattle.definition.specs.Syntax.{FieldRec, type_r, import_r, item_r, export_r, start_r, elem_r, data_r, Rec, field, instr, folded, body_end}

module _ {I J : Type 0} (f : I → J) where
  abbrev pub map_id : Option I → Option J
  map_id none = none
  map_id (some i) = some (f i)

  abbrev pub map_index : Index I → Index J
  map_index absent = absent
  map_index (number n) = number n
  map_index (named i) = named (f i)
  map_index (own_index n) = own_index n

  abbrev pub map_pair : Space × Index I → Space × Index J
  map_pair x = (x.0, map_index x.1)

  abbrev pub map_local : Local I → Local J
  map_local l = record { id = map_id l.id; type = l.type }

  abbrev pub map_type_use : TypeUse I → TypeUse J
  map_type_use t = record { index = map_index t.index; params = map map_local t.params; results = t.results }

  abbrev pub map_operand : Operand I → Operand J
  map_operand nothing = nothing
  map_operand (label x) = label (map_index x)
  map_operand (labels xs x) = labels (map map_index xs) (map_index x)
  map_operand (local x) = local (map_index x)
  map_operand (item k x) = item k (map_index x)
  map_operand (items b xs) = items b (map map_pair xs)
  map_operand (access e o x) = access e o (map_index x)
  map_operand (int32 n) = int32 n
  map_operand (int64 n) = int64 n
  map_operand (raw bs) = raw bs

  abbrev pub map_plain : Plain I → Plain J
  map_plain p = record { opcode = p.opcode; operand = map_operand p.operand }

  abbrev pub map_instr : Instr I → Instr J
  map_instr (opens op l t) = opens op (map_id l) (map_type_use t)
  map_instr (elses l) = elses (map_id l)
  map_instr (ends l) = ends (map_id l)
  map_instr (indirect x t) = indirect (map_index x) (map_type_use t)
  map_instr (plain p) = plain (map_plain p)

  abbrev pub map_extern : ExternType (TypeUse I) → ExternType (TypeUse J)
  map_extern (func t) = func (map_type_use t)
  map_extern (table t) = table t
  map_extern (mem l) = mem l
  map_extern (global g) = global g

  abbrev pub map_own : Own I → Own J
  map_own (own_func t ls) = own_func (map_type_use t) (map map_local ls)
  map_own (own_table t) = own_table t
  map_own (own_mem l) = own_mem l
  map_own (own_global t c) = own_global t (map_plain c)

  abbrev pub map_source : Source I → Source J
  map_source (own o) = own (map_own o)
  map_source (imported n d) = imported n (map_extern d)
  map_source (table_of w xs) = table_of w (map map_index xs)
  map_source (mem_of w d) = mem_of w d

  abbrev pub map_mode : Mode (Index I) (Plain I) → Mode (Index J) (Plain J)
  map_mode passive = passive
  map_mode (active x c) = active (map_index x) (map_plain c)

  abbrev pub map_field_rec : FieldRec I → FieldRec J
  map_field_rec (type_r i t) = type_r (map_id i) t
  map_field_rec (import_r n i d) = import_r n (map_id i) (map_extern d)
  map_field_rec (item_r i es x) = item_r (map_id i) es (map_source x)
  map_field_rec (export_r n k x) = export_r n k (map_index x)
  map_field_rec (start_r x) = start_r (map_index x)
  map_field_rec (elem_r i m xs) = elem_r (map_id i) (map_mode m) (map map_index xs)
  map_field_rec (data_r i m d) = data_r (map_id i) (map_mode m) d

  abbrev pub map_rec : Rec I → Rec J
  map_rec (field x) = field (map_field_rec x)
  map_rec (instr x) = instr (map_instr x)
  map_rec (folded x n) = folded (map_instr x) n
  map_rec body_end = body_end

-- everything but which identifiers they are
unfoldable pub shape : {I : Type 0} → List (Rec I) → List (Rec (Unit {0}))
shape rs = map (map_rec (λ _. tt)) rs
