-- No reading fault has the number 0.
use Rattle.std.specs.Prelude.{if◌then◌else◌}
use mathlib.Core.Path.{◌≡◌, refl}
use Prim.Native.Nat.{ℕ, zero, suc, ◌+◌, ◌<◌}
use mathlib.Core.Bool.{Bool, true, false}
use mathlib.Core.List.{List, [], ◌∷◌}
use mathlib.Core.Option.{Option, none, some}
use lib.Dec.{ltb}
use lib.ListN.{length, get_or}
use borrow.Author.Tests.{ltb-true}
use native.Mathlib.Omega.{arith}
use Rattle.definition.specs.Syntax.{Bytes, Space}
use Rattle.definition.specs.Reader.{Step, got, fault, Reader, onward, require, byte, many}
use Rattle.definition.specs.Token.{groups, u32, u64, up_to, counted, id_byte, identifier, identifier₁, string_byte, string, bytes, val_type, ref_type, flag, flag64, bound, maximum, limits_of, limits}
use Rattle.definition.specs.Token.{table_type, global_type, number_index, named_index, present, optional, param, type_use}
use Rattle.definition.specs.Instructions.{Operands, bare, labelidx, labelidxs, localidx, funcidx, globalidx, memidx, memarg, i32, i64, f32, f64, heaptype, bulk}
use Rattle.definition.specs.Instructions.{Form, opening, elsing, ending, calling, operands, alignment, index_in, indices, bulk_of, plain_of, constant, instruction, Inside, admits, formed, unfolded_rec, may_fold, operator_of, operator, fold, folded_rec, body_rec}
use Rattle.definition.specs.Records.{Room, import_name, func_extern, table_extern, mem_extern, global_extern, import_of, import_rec, item_rec, import_form}
use Rattle.definition.specs.Records.{own_func_form, func_rec, own_table_form, inline_table_form, table_rec, own_mem_form, inline_mem_form, mem_rec, own_global_form, global_rec}
use Rattle.definition.specs.Records.{type_rec, kind, export_rec, start_rec, active_mode, mode, elem_rec, data_rec, field_recs, field_rec}
use Rattle.definition.specs.Read.{Seen, room, record_in, one_record}

-- ## Steps

pub record NotZero {A : Type 0} (m : Step A) : Type 0 where
  pub number : (n : ℕ) → m ≡ fault n → 0 < n

module _ {A : Type 0} where
  by_got : (a : A) (n : ℕ) → NotZero (got a n)
  by_got a n = record { number = λ q e. let z : ◌≡◌ {A = ℕ} 0 1 = cc in absurd (omega arith) }

  by_fault : (n : ℕ) → ltb 0 n ≡ true → NotZero {A = A} (fault n)
  by_fault n h = record { number = λ q e. let z : n ≡ q = cc in let l = ltb-true 0 n h in omega arith }

  by_if : (t : Bool) (p q : Reader A) (s : Bytes) (at : ℕ) → NotZero (p s at) → NotZero (q s at) → NotZero ((if t then p else q) s at)
  by_if true p q s at f g = f
  by_if false p q s at f g = g

by_require : (n : ℕ) (t : Bool) (s : Bytes) (at : ℕ) → ltb 0 n ≡ true → NotZero (require n t s at)
by_require n true s at h = by_got tt at
by_require n false s at h = by_fault n h

by_then : {A B : Type 0} (m : Step A) (k : A → ℕ → Step B) → NotZero m → ((a : A) (n : ℕ) → NotZero (k a n)) → NotZero (onward k m)
by_then (got a n) k f g = g a n
by_then (fault q) k f g = record { number = λ n e. let z : q ≡ n = cc in let h = f.number q refl in omega arith }

by_byte : (s : Bytes) (at : ℕ) → NotZero (byte s at)
unfolding byte
by_byte s at = go (ltb at (length s))
  where
    go : (t : Bool) → NotZero (if t then got (get_or s at 0) (at + 1) else fault 2)
    go true = by_got _ _
    go false = by_fault 2 refl

ruleset steps = (refl, by_got, by_fault, by_if, by_require, by_then, by_byte)

by_many : {A : Type 0} (p : Reader A) → ((s : Bytes) (at : ℕ) → NotZero (p s at)) → (n : ℕ) (s : Bytes) (at : ℕ) → NotZero (many n p s at)
unfolding many
by_many p h zero s at = search steps
by_many p h (suc n) s at = by_then (p s at) _ (h s at) λ x m. by_then (many n p s m) _ (by_many p h n s m) λ xs l. by_got _ _

-- ## Tokens

by_groups : (left most scale value : ℕ) (s : Bytes) (at : ℕ) → NotZero (groups left most scale value s at)
unfolding groups
by_groups zero most scale value s at = search steps
by_groups (suc left) most scale value s at =
    let again : (scale value : ℕ) (s : Bytes) (at : ℕ) → NotZero (groups left most scale value s at) = λ c v s at. by_groups left most c v s at in
    search (steps, again) depth 12

by_u32 : (s : Bytes) (at : ℕ) → NotZero (u32 s at)
unfolding u32
by_u32 s at = search (steps, by_groups) depth 12

by_u64 : (s : Bytes) (at : ℕ) → NotZero (u64 s at)
unfolding u64
by_u64 s at = search (steps, by_groups) depth 12

by_up_to : (n ceiling : ℕ) → ltb 0 n ≡ true → (s : Bytes) (at : ℕ) → NotZero (up_to n ceiling s at)
unfolding up_to
by_up_to n ceiling h s at = search (steps, by_u32) depth 12

by_counted : {A : Type 0} (ceiling : ℕ) (p : Reader A) → ((s : Bytes) (at : ℕ) → NotZero (p s at)) → (s : Bytes) (at : ℕ) → NotZero (counted ceiling p s at)
unfolding counted
by_counted ceiling p h s at = search (steps, by_up_to, by_many) depth 12

ruleset numbers = (steps, by_many, by_u32, by_u64, by_up_to, by_counted)

by_identifier : (s : Bytes) (at : ℕ) → NotZero (identifier s at)
unfolding identifier id_byte
by_identifier s at = search (numbers) depth 12

by_string : (s : Bytes) (at : ℕ) → NotZero (string s at)
unfolding string string_byte
by_string s at = search (numbers) depth 12

by_bytes : (s : Bytes) (at : ℕ) → NotZero (bytes s at)
unfolding bytes
by_bytes s at = search (numbers) depth 12

by_val_type : (s : Bytes) (at : ℕ) → NotZero (val_type s at)
unfolding val_type
by_val_type s at = search (numbers) depth 12

by_ref_type : (s : Bytes) (at : ℕ) → NotZero (ref_type s at)
unfolding ref_type
by_ref_type s at = search (numbers) depth 12

by_flag64 : (s : Bytes) (at : ℕ) → NotZero (flag64 s at)
unfolding flag64
by_flag64 s at = search (numbers) depth 12

by_limits_of : (has wide : Bool) → (s : Bytes) (at : ℕ) → NotZero (limits_of has wide s at)
unfolding limits_of maximum bound
by_limits_of has wide s at = search (numbers) depth 12

by_limits : (s : Bytes) (at : ℕ) → NotZero (limits s at)
unfolding limits
by_limits s at = search (numbers, by_limits_of) depth 12

by_table_type : (s : Bytes) (at : ℕ) → NotZero (table_type s at)
unfolding table_type
by_table_type s at = search (numbers, by_ref_type, by_limits) depth 12

by_global_type : (s : Bytes) (at : ℕ) → NotZero (global_type s at)
unfolding global_type flag
by_global_type s at = search (numbers, by_val_type) depth 12

by_number_index : (s : Bytes) (at : ℕ) → NotZero (number_index s at)
unfolding number_index
by_number_index s at = search (numbers) depth 12

by_named_index : (s : Bytes) (at : ℕ) → NotZero (named_index s at)
unfolding named_index identifier₁ id_byte
by_named_index s at = search (numbers) depth 12

by_present : (s : Bytes) (at : ℕ) → NotZero (present s at)
unfolding present
by_present s at = search (numbers, by_number_index, by_named_index) depth 12

by_optional : (s : Bytes) (at : ℕ) → NotZero (optional s at)
unfolding optional
by_optional s at = search (numbers, by_number_index, by_named_index) depth 12

by_param : (s : Bytes) (at : ℕ) → NotZero (param s at)
unfolding param
by_param s at = search (numbers, by_identifier, by_val_type) depth 12

by_type_use : (s : Bytes) (at : ℕ) → NotZero (type_use s at)
unfolding type_use
by_type_use s at = search (numbers, by_optional, by_param, by_val_type) depth 12

ruleset tokens = (numbers, by_identifier, by_string, by_bytes, by_val_type, by_ref_type, by_flag64, by_limits, by_table_type, by_global_type, by_present, by_optional, by_param, by_type_use)

-- ## Instructions

by_indices : (ks : List Space) (s : Bytes) (at : ℕ) → NotZero (indices ks s at)
unfolding indices index_in
by_indices [] s at = search tokens
by_indices (k ∷ ks) s at =
    let again : (s : Bytes) (at : ℕ) → NotZero (indices ks s at) = λ s at. by_indices ks s at in
    search (tokens, again) depth 12

by_bulk : (b : ℕ) (o : Option (List Space)) (s : Bytes) (at : ℕ) → NotZero (bulk_of b o s at)
by_bulk b none s at = search tokens
by_bulk b (some ks) s at = search (tokens, by_indices) depth 12

by_plain : (op : ℕ) (w : Operands) (s : Bytes) (at : ℕ) → NotZero (plain_of op w s at)
unfolding plain_of alignment
by_plain op bare s at = search (tokens) depth 12
by_plain op labelidx s at = search (tokens) depth 12
by_plain op labelidxs s at = search (tokens) depth 12
by_plain op localidx s at = search (tokens) depth 12
by_plain op funcidx s at = search (tokens) depth 12
by_plain op globalidx s at = search (tokens) depth 12
by_plain op memidx s at = search (tokens) depth 12
by_plain op memarg s at = search (tokens) depth 12
by_plain op i32 s at = search (tokens) depth 12
by_plain op i64 s at = search (tokens) depth 12
by_plain op f32 s at = search (tokens) depth 12
by_plain op f64 s at = search (tokens) depth 12
by_plain op heaptype s at = search (tokens) depth 12
by_plain op bulk s at = search (tokens, by_bulk) depth 12

by_constant : (s : Bytes) (at : ℕ) → NotZero (constant s at)
unfolding constant
by_constant s at = search (tokens, by_plain) depth 20

by_formed : (i : Inside) (op : ℕ) (form : Option Form) (s : Bytes) (at : ℕ) → NotZero (formed i op form s at)
unfolding admits instruction
by_formed i op none s at = search tokens
by_formed i op (some opening) s at = search tokens depth 12
by_formed i op (some elsing) s at = search tokens depth 12
by_formed i op (some ending) s at = search tokens depth 12
by_formed i op (some calling) s at = search tokens depth 12
by_formed i op (some (operands w)) s at = search (tokens, by_plain) depth 12

by_operator : (op : ℕ) (form : Option Form) (s : Bytes) (at : ℕ) → NotZero (operator_of op form s at)
unfolding may_fold instruction
by_operator op none s at = search tokens
by_operator op (some opening) s at = search tokens depth 12
by_operator op (some elsing) s at = search tokens depth 12
by_operator op (some ending) s at = search tokens depth 12
by_operator op (some calling) s at = search tokens depth 12
by_operator op (some (operands w)) s at = search (tokens, by_plain) depth 12

by_body : (i : Inside) (s : Bytes) (at : ℕ) → NotZero (body_rec i s at)
unfolding body_rec unfolded_rec folded_rec fold operator
by_body i s at = search (tokens, by_formed, by_operator) depth 20

-- ## Records

by_mode : (s : Bytes) (at : ℕ) → NotZero (mode s at)
unfolding mode active_mode
by_mode s at = search (tokens, by_constant) depth 12

by_import_name : (s : Bytes) (at : ℕ) → NotZero (import_name s at)
unfolding import_name
by_import_name s at = search tokens depth 12

module _ (free : Room) where
  by_import : (s : Bytes) (at : ℕ) → NotZero (import_rec free s at)
  unfolding import_rec import_of func_extern table_extern mem_extern global_extern
  by_import s at = search (tokens, by_import_name) depth 20

  by_func : (s : Bytes) (at : ℕ) → NotZero (func_rec free s at)
  unfolding func_rec item_rec own_func_form import_form func_extern
  by_func s at = search (tokens, by_import_name) depth 20

  by_table : (s : Bytes) (at : ℕ) → NotZero (table_rec free s at)
  unfolding table_rec item_rec own_table_form import_form inline_table_form table_extern
  by_table s at = search (tokens, by_import_name) depth 20

  by_mem : (s : Bytes) (at : ℕ) → NotZero (mem_rec free s at)
  unfolding mem_rec item_rec own_mem_form import_form inline_mem_form mem_extern
  by_mem s at = search (tokens, by_import_name) depth 20

  by_global : (s : Bytes) (at : ℕ) → NotZero (global_rec free s at)
  unfolding global_rec item_rec own_global_form import_form global_extern
  by_global s at = search (tokens, by_constant, by_import_name) depth 20

  by_field : (s : Bytes) (at : ℕ) → NotZero (field_rec free s at)
  unfolding field_rec field_recs type_rec export_rec kind start_rec elem_rec data_rec
  by_field s at = search (tokens, by_import, by_func, by_table, by_mem, by_global, by_mode) depth 30

pub record_faults : (seen : Seen) (s : Bytes) (at : ℕ) → NotZero (one_record seen s at)
unfolding one_record
record_faults seen s at = go seen.body
  where
    go : (body : Option Inside) → NotZero (record_in (room seen) body s at)
    go none = search (tokens, by_field)
    go (some i) = by_body i s at
