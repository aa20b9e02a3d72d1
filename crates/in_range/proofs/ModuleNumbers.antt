-- No refusal of resolution has the number 0, and none of what makes a module: a call that says 0 has accepted.
use Prim.Native.Nat.{ℕ}
use mathlib.Core.Bool.{Bool}
use mathlib.Core.List.{List, [], ◌∷◌}
use mathlib.Core.Option.{Option, none, some}
use Rattle.definition.specs.Basic.{Answer}
use Rattle.definition.specs.Syntax.{Bytes, Identifier, Space, FuncType, ExternType, func, table, mem, global, Mode, passive, active}
use Rattle.definition.specs.Syntax.{Index, absent, number, named, own_index, TypeUse, Own, own_func, own_table, own_mem, own_global}
use Rattle.definition.specs.Syntax.{Operand, nothing, label, labels, local, item, items, access, int32, int64, raw, Plain, Instr, opens, elses, ends, indirect, plain}
use Rattle.definition.specs.Syntax.{Rec, Body, Field, type_f, import_f, own_f, export_f, start_f, elem_f, data_f}
use Rattle.definition.specs.Deinline.{Numbered, import_order}
use Rattle.definition.specs.Types.{all_types}
use Rattle.definition.specs.Names.{Namespace, Scope, find, found_at, below, number_in, agrees, item_no, checked, type_no_of, type_no, block_type, blocks_after}
use Rattle.definition.specs.Names.{local_no, depth_of, immediate, plain_op, const_op, closes, instr_op, body, distinct_locals, own_item, extern_no, table_no, mode_of, resolve, resolve_all}
use Rattle.definition.specs.Assemble as Assemble
use Rattle.in_range.proofs.RefusalNumbers.{Positive, answers, by_ok, by_next, by_each, by_imports, by_intern, by_register}

-- ## Resolution

by_found : (r : ℕ) (o : Option ℕ) → Positive (found_at r o)
by_found r none = search answers
by_found r (some n) = search answers

by_number : {I : Type 0} (strict : Bool) (eq : I → I → Bool) (ns : Namespace I) (limit r : ℕ) (x : Index I) → Positive (number_in strict eq ns limit r x)
unfolding number_in below
by_number strict eq ns limit r absent = search answers
by_number strict eq ns limit r (number n) = search answers
by_number strict eq ns limit r (named i) = by_found r (find eq i ns)
by_number strict eq ns limit r (own_index n) = search answers

by_agrees : (r : ℕ) (s : FuncType) (n : ℕ) (o : Option FuncType) → Positive (agrees r s n o)
by_agrees r s n none = search answers
by_agrees r s n (some t) = search answers

module _ {I : Type 0} (Γ : Scope I) where
  by_item : (k : Space) (r : ℕ) (x : Index I) → Positive (item_no Γ k r x)
  unfolding item_no
  by_item k r x = by_number _ _ _ _ r x

  by_type_no_of : (r : ℕ) (t : Bool) (s : FuncType) (x : Index I) → Positive (type_no_of Γ r t s x)
  unfolding type_no_of checked
  by_type_no_of r t s absent = search answers
  by_type_no_of r t s (number n) = search (answers, by_item, by_agrees) depth 12
  by_type_no_of r t s (named i) = search (answers, by_item, by_agrees) depth 12
  by_type_no_of r t s (own_index n) = search (answers, by_item, by_agrees) depth 12

  by_type : (r : ℕ) (t : TypeUse I) → Positive (type_no Γ r t)
  unfolding type_no
  by_type r t = by_type_no_of r _ _ t.index

  by_block : (r : ℕ) (t : TypeUse I) → Positive (block_type Γ r t)
  unfolding block_type
  by_block r t = search (answers, by_type)

  module _ (locals blocks : Namespace I) (r : ℕ) where
    by_local : (x : Index I) → Positive (local_no Γ locals r x)
    unfolding local_no
    by_local x = search (answers, by_number)

    by_depth : (x : Index I) → Positive (depth_of Γ blocks r x)
    unfolding depth_of
    by_depth x = search (answers, by_number)

    by_immediate : (o : Operand I) → Positive (immediate Γ locals blocks r o)
    unfolding immediate
    by_immediate nothing = search answers
    by_immediate (label x) = search (answers, by_depth)
    by_immediate (labels xs x) = search (answers, by_each, by_depth)
    by_immediate (local x) = search (answers, by_local)
    by_immediate (item k x) = search (answers, by_item)
    by_immediate (items b xs) = search (answers, by_each, by_item)
    by_immediate (access e o x) = search (answers, by_item)
    by_immediate (int32 n) = search answers
    by_immediate (int64 n) = search answers
    by_immediate (raw bs) = search answers

    by_plain : (p : Plain I) → Positive (plain_op Γ locals blocks r p)
    unfolding plain_op
    by_plain p = search (answers, by_immediate)

    by_closes : (l : Option I) → Positive (closes Γ r l blocks)
    unfolding closes
    by_closes none = search answers
    by_closes (some i) = go blocks
      where
        go : (ns : Namespace I) → Positive (closes Γ r (some i) ns)
        go [] = search answers
        go (n ∷ ns) = search answers

    by_instr : (x : Instr I) → Positive (instr_op Γ locals blocks r x)
    unfolding instr_op
    by_instr (opens op l t) = search (answers, by_block)
    by_instr (elses l) = search (answers, by_closes)
    by_instr (ends l) = search (answers, by_closes)
    by_instr (indirect x t) = search (answers, by_item, by_type)
    by_instr (plain p) = by_plain p

  by_body : (locals blocks : Namespace I) (xs : Body I) → Positive (body Γ locals blocks xs)
  unfolding body
  by_body locals blocks [] = search answers
  by_body locals blocks ((r, x) ∷ xs) = by_next _ _ (by_instr locals blocks r x) λ o. by_next _ _ (by_body locals (blocks_after blocks x) xs) λ os. by_ok _

  module _ (r : ℕ) where
    by_const : (p : Plain I) → Positive (const_op Γ r p)
    unfolding const_op
    by_const p = by_plain [] [] r p

    by_own : (o : Own I) (b : Body I) → Positive (own_item Γ r o b)
    unfolding own_item distinct_locals
    by_own (own_func t ls) b = search (answers, by_type, by_body) depth 12
    by_own (own_table t) b = search answers
    by_own (own_mem l) b = search answers
    by_own (own_global t p) b = search (answers, by_const)

    by_extern : (d : ExternType (TypeUse I)) → Positive (extern_no Γ r d)
    unfolding extern_no
    by_extern (func t) = search (answers, by_type)
    by_extern (table t) = search answers
    by_extern (mem l) = search answers
    by_extern (global g) = search answers

    by_table : (x : Index I) → Positive (table_no Γ r x)
    unfolding table_no
    by_table x = search (answers, by_item)

    by_mode : {X : Type 0} (f : ℕ → Index I → Answer X) → ((x : Index I) → Positive (f r x)) → (m : Mode (Index I) (Plain I)) → Positive (mode_of Γ f r m)
    unfolding mode_of
    by_mode f h passive = search answers
    by_mode f h (active x p) = search (answers, by_const, h)

    by_resolve : (x : Field I) → Positive (resolve Γ r x)
    unfolding resolve
    by_resolve (type_f i t) = search answers
    by_resolve (import_f n i d) = search (answers, by_extern)
    by_resolve (own_f i o b) = by_own o b
    by_resolve (export_f n k x) = search (answers, by_item)
    by_resolve (start_f x) = search (answers, by_item)
    by_resolve (elem_f i m xs) = search (answers, by_mode, by_table, by_each, by_item)
    by_resolve (data_f i m d) = search (answers, by_mode, by_item)

  by_items : (fs : Numbered I) → Positive (Assemble.items_in Γ fs)
  unfolding Assemble.items_in resolve_all
  by_items fs = search (answers, by_each, by_resolve)

by_scope : {I : Type 0} (strict : Bool) (eq : I → I → Bool) (fs : Numbered I) → Positive (Assemble.scope strict eq fs)
unfolding Assemble.scope import_order all_types
by_scope strict eq fs = search (answers, by_imports, by_intern, by_register) depth 12

by_fitting : (room count : ℕ) (bs : Bytes) → Positive (Assemble.fitting room count bs)
unfolding Assemble.fitting
by_fitting room count bs = search answers

pub module_refusals : {I : Type 0} (strict : Bool) (eq : I → I → Bool) (room : ℕ) (rs : List (Rec I)) → Positive (Assemble.module_in strict eq room rs)
unfolding Assemble.module_in Assemble.resolved Assemble.items
module_refusals strict eq room rs = search (answers, by_scope, by_items, by_fitting) depth 12

pub named_refusals : (strict : Bool) (room : ℕ) (rs : List (Rec Identifier)) → Positive (Assemble.named_module_in strict room rs)
unfolding Assemble.named_module_in
named_refusals strict room rs = search (answers, by_scope, by_items, by_fitting) depth 12
