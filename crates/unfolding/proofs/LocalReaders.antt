-- Every reader of the definition is local.
use Prim.Native.Nat.{ℕ, ◌^◌}
use mathlib.Core.Bool.{Bool}
use mathlib.Core.List.{List, [], ◌∷◌}
use mathlib.Core.Option.{Option, none, some}
use Rattle.definition.specs.Syntax.{Space, field}
use Rattle.definition.specs.Reader.{Reader}
use Rattle.definition.specs.Token.{u32, u64, up_to, counted, id_byte, identifier, identifier₁, string_byte, string, bytes, val_type, ref_type, flag, flag64, bound, maximum, limits_of, limits, table_type, global_type}
use Rattle.definition.specs.Token.{number_index, named_index, present, optional, param, type_use}
use Rattle.definition.specs.Instructions.{Operands, bare, labelidx, labelidxs, localidx, funcidx, globalidx, memidx, memarg, i32, i64, f32, f64, heaptype, bulk}
use Rattle.definition.specs.Instructions.{Form, opening, elsing, ending, calling, operands, alignment, index_in, indices, bulk_of, plain_of, constant, instruction}
use Rattle.definition.specs.Instructions.{Inside, admits, formed, unfolded_rec, may_fold, operator_of, operator, fold, folded_rec, body_rec}
use Rattle.definition.specs.Records.{Room, import_name, func_extern, table_extern, mem_extern, global_extern, import_of, import_rec, item_rec, import_form, own_func_form, func_rec, own_table_form, inline_table_form, table_rec}
use Rattle.definition.specs.Records.{own_mem_form, inline_mem_form, mem_rec, own_global_form, global_rec, type_rec, kind, export_rec, start_rec, active_mode, mode, elem_rec, data_rec, field_recs, field_rec}
use Rattle.definition.specs.Read.{Seen, room, record_in, one_record}
use Rattle.unfolding.proofs.Local.{Local, locals, local-give, local_then, local-require, local-groups}

-- ## Tokens

local-u32 : Local u32
unfolding u32
local-u32 = local-groups 5 (2 ^ 32) 1 0

local-u64 : Local u64
unfolding u64
local-u64 = local-groups 10 (2 ^ 64) 1 0

pub local-up_to : (n ceiling : ℕ) → Local (up_to n ceiling)
unfolding up_to
local-up_to n ceiling = search (locals, local-u32) depth 14

local_counted : {A : Type 0} (ceiling : ℕ) (p : Reader A) → Local p → Local (counted ceiling p)
unfolding counted
local_counted ceiling p h = search (locals, local-up_to) depth 14

ruleset numbers = (locals, local-u32, local-u64, local-up_to, local_counted)

local-identifier : Local identifier
unfolding identifier id_byte
local-identifier = search numbers depth 14

local-string : Local string
unfolding string string_byte
local-string = search numbers depth 14

local-bytes : Local bytes
unfolding bytes
local-bytes = search numbers depth 14

local-val_type : Local val_type
unfolding val_type
local-val_type = search numbers depth 14

local-ref_type : Local ref_type
unfolding ref_type
local-ref_type = search numbers depth 14

local-flag64 : Local flag64
unfolding flag64
local-flag64 = search numbers depth 14

local-limits_of : (has wide : Bool) → Local (limits_of has wide)
unfolding limits_of maximum bound
local-limits_of has wide = search numbers depth 14

local-limits : Local limits
unfolding limits
local-limits = search (numbers, local-limits_of) depth 14

local-table_type : Local table_type
unfolding table_type
local-table_type = search (numbers, local-ref_type, local-limits) depth 14

local-global_type : Local global_type
unfolding global_type flag
local-global_type = search (numbers, local-val_type) depth 14

local-present : Local present
unfolding present number_index named_index identifier₁ id_byte
local-present = search numbers depth 20

local-optional : Local optional
unfolding optional number_index named_index identifier₁ id_byte
local-optional = search numbers depth 20

local_param : Local param
unfolding param
local_param = search (numbers, local-identifier, local-val_type) depth 14

local-type_use : Local type_use
unfolding type_use
local-type_use = search (numbers, local-optional, local_param, local-val_type) depth 14

ruleset tokens = (numbers, local-identifier, local-string, local-bytes, local-val_type, local-ref_type, local-flag64, local-limits, local-table_type, local-global_type, local-present, local-optional, local_param, local-type_use)

-- ## Instructions

local-index : (k : Space) → Local (index_in k)
unfolding index_in
local-index k = search tokens

local-indices : (ks : List Space) → Local (indices ks)
unfolding indices
local-indices [] = local-give []
local-indices (k ∷ ks) = local_then (local-index k) (λ x. local_then (local-indices ks) (λ xs. local-give _))

local_bulk : (b : ℕ) (ks : Option (List Space)) → Local (bulk_of b ks)
local_bulk b none = search tokens
local_bulk b (some ks) = search (tokens, local-indices) depth 14

local-plain : (op : ℕ) (x : Operands) → Local (plain_of op x)
unfolding plain_of alignment
local-plain op bare = search tokens depth 14
local-plain op labelidx = search tokens depth 14
local-plain op labelidxs = search tokens depth 14
local-plain op localidx = search tokens depth 14
local-plain op funcidx = search tokens depth 14
local-plain op globalidx = search tokens depth 14
local-plain op memidx = search tokens depth 14
local-plain op memarg = search tokens depth 14
local-plain op i32 = search tokens depth 14
local-plain op i64 = search tokens depth 14
local-plain op f32 = search tokens depth 14
local-plain op f64 = search tokens depth 14
local-plain op heaptype = search tokens depth 14
local-plain op bulk = search (tokens, local_bulk) depth 14

local-constant : Local constant
unfolding constant
local-constant = search (tokens, local-plain) depth 20

local-instruction : (op : ℕ) (form : Form) → Local (instruction op form)
unfolding instruction
local-instruction op opening = search tokens depth 14
local-instruction op elsing = search tokens depth 14
local-instruction op ending = search tokens depth 14
local-instruction op calling = search tokens depth 14
local-instruction op (operands x) = search (tokens, local-plain) depth 14

local-admits : (i : Inside) (form : Form) → Local (admits i form)
unfolding admits
local-admits i opening = search locals
local-admits i elsing = search locals
local-admits i ending = search locals
local-admits i calling = search locals
local-admits i (operands x) = search locals

local-formed : (i : Inside) (op : ℕ) (form : Option Form) → Local (formed i op form)
local-formed i op none = search locals
local-formed i op (some form) = local_then (local-admits i form) (λ _. local-instruction op form)

local-opcode : (op : ℕ) (form : Option Form) → Local (operator_of op form)
local-opcode op none = search locals
local-opcode op (some form) = local_then (local-require 4 (may_fold form)) (λ _. local-instruction op form)

pub local-operator : Local operator
unfolding operator
local-operator = search (locals, local-opcode)

local-body : (i : Inside) → Local (body_rec i)
unfolding body_rec folded_rec fold unfolded_rec
local-body i = search (numbers, local-operator, local-formed) depth 20

-- ## Fields

local-mode : Local mode
unfolding mode active_mode
local-mode = search (tokens, local-constant) depth 14

local-import_name : Local import_name
unfolding import_name
local-import_name = search tokens depth 14

module _ (free : Room) where
  local_import : Local (import_rec free)
  unfolding import_rec import_of func_extern table_extern mem_extern global_extern
  local_import = search (tokens, local-import_name) depth 30

  local-func : Local (func_rec free)
  unfolding func_rec item_rec own_func_form import_form func_extern
  local-func = search (tokens, local-import_name) depth 30

  local-table : Local (table_rec free)
  unfolding table_rec item_rec own_table_form import_form inline_table_form table_extern
  local-table = search (tokens, local-import_name) depth 30

  local-mem : Local (mem_rec free)
  unfolding mem_rec item_rec own_mem_form import_form inline_mem_form mem_extern
  local-mem = search (tokens, local-import_name) depth 30

  local-global : Local (global_rec free)
  unfolding global_rec item_rec own_global_form import_form global_extern
  local-global = search (tokens, local-constant, local-import_name) depth 30

  local-field : Local (field_rec free)
  unfolding field_rec field_recs type_rec export_rec kind start_rec elem_rec data_rec
  local-field = search (tokens, local_import, local-func, local-table, local-mem, local-global, local-mode) depth 40

-- ## Records

pub local_record : (seen : Seen) → Local (one_record seen)
unfolding one_record
local_record seen = go seen.body
  where
    go : (body : Option Inside) → Local (record_in (room seen) body)
    go none = local_then (local-field (room seen)) (λ f. local-give (field f))
    go (some i) = local-body i
