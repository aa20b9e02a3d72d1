-- The strict call (document 02, §8) says what the plain call says, or 20. So where it accepts, the plain call gives the same answer and bytes,
-- and where it refuses by another number, so does the plain call, at the same record.
use Rattle.std.specs.Prelude.{if◌then◌else◌}
use mathlib.Core.Path.{◌≡◌, refl, ap, sym}
use Prim.Native.Nat.{ℕ, ◌+◌}
use mathlib.Core.Bool.{Bool, true, false, ◌&&◌, not, false≢true}
use mathlib.Core.List.{List, [], ◌∷◌}
use mathlib.Core.Option.{Option, none, some}
use lib.Dec.{eqb, ltb}
use lib.ListN.{length}
use Rattle.definition.specs.Basic.{refusal, Answer, ok, fails, refused, ◌>>=◌, each, concat_map, same_bytes}
use Rattle.definition.specs.Syntax.{Bytes, Identifier, Space, funcs, tables, mems, types, FuncType, ExternType, func, table, mem, global, Mode, passive, active}
use Rattle.definition.specs.Syntax.{Index, absent, number, named, own_index, TypeUse, Own, own_func, own_table, own_mem, own_global}
use Rattle.definition.specs.Syntax.{Operand, nothing, label, labels, local, item, items, access, int32, int64, raw, Plain, Instr, opens, elses, ends, indirect, plain}
use Rattle.definition.specs.Syntax.{Rec, Item, Body, Field, type_f, import_f, own_f, export_f, start_f, elem_f, data_f}
use Rattle.definition.specs.Deinline.{Numbered, deinline}
use Rattle.definition.specs.Types.{signature, is_inline, is_short}
use Rattle.definition.specs.Names.{Namespace, Scope, space, definers, below, number_in, is_absent, locals_of, blocks_after, count_in, item_no, checked, type_no_of, type_no, block_type}
use Rattle.definition.specs.Names.{local_no, depth_of, immediate, plain_op, const_op, closes, instr_op, body, distinct_locals, own_item, extern_no, table_no, mode_of, resolve, resolve_all}
use Rattle.definition.specs.Read.{read}
use Rattle.definition.specs.NameSection.{locals_by, own_function, function_in, functions, subsections, custom_of, name_section}
use Rattle.definition.specs.Assemble as Assemble
use borrow.Author.Tests.{ne_eqb}
use Rattle.laws.proofs.Interning.{came}
use Rattle.laws.proofs.Passes.{scope_then}

-- ## Equal, or 20

-- refused by 20?
abbrev pub is_twenty : {A : Type 0} → Answer A → Bool
is_twenty (ok x) = false
is_twenty (fails q) = eqb q.number 20

-- the first is the second, but where it is refused by 20
pub record Or20 {A : Type 0} (a b : Answer A) : Type 0 where
  pub same : is_twenty a ≡ false → a ≡ b

itself : {A : Type 0} {a : Answer A} → Or20 a a
itself = record { same = λ _. refl }

next : {A B : Type 0} {m n : Answer A} {k l : A → Answer B} → Or20 m n → ((a : A) → Or20 (k a) (l a)) → Or20 (m >>= k) (n >>= l)
unfolding ◌>>=◌
next {m = ok a} {n} h f = let e = h.same refl in rw (← e) (f a)
next {m = fails q} {n} h f = record { same = λ t. let e = h.same t in rw (← e) refl }

-- the same, where what follows may rest on the first's result
next_by : {A B : Type 0} (m : Answer A) {n : Answer A} {k l : A → Answer B} → Or20 m n → ((a : A) → m ≡ ok a → Or20 (k a) (l a)) → Or20 (m >>= k) (n >>= l)
unfolding ◌>>=◌
next_by (ok a) h f = let e = h.same refl in rw (← e) (f a refl)
next_by (fails q) h f = record { same = λ t. let e = h.same t in rw (← e) refl }

each_or : {A B : Type 0} {f g : A → Answer B} → ((x : A) → Or20 (f x) (g x)) → (xs : List A) → Or20 (each f xs) (each g xs)
unfolding each
each_or h [] = itself
each_or h (x ∷ xs) = next (h x) (λ y. next (each_or h xs) (λ ys. itself))

either_or : {A : Type 0} (t : Bool) {a b c d : Answer A} → Or20 a c → Or20 b d → Or20 (if t then a else b) (if t then c else d)
either_or true h w = h
either_or false h w = w

-- ## Over the definition, from a number up to all items

below_or : (limit r n : ℕ) → Or20 (below true limit r n) (below false limit r n)
unfolding below
below_or limit r n = go (not (ltb n limit))
  where
    go : (t : Bool) → Or20 (if t then refused 20 r else ok n) (ok n)
    go true = record { same = λ e. absurd (false≢true (sym e)) }
    go false = itself

module _ {I : Type 0} (eq : I → I → Bool) (names : Space → Namespace I) (records : Space → List ℕ) (ts : List FuncType) where
  abbrev In : Bool → Scope I
  In strict = record { strict = strict; eq = eq; names = names; definers = records; all_types = ts }

  number_or : (ns : Namespace I) (limit r : ℕ) (x : Index I) → Or20 (number_in true eq ns limit r x) (number_in false eq ns limit r x)
  unfolding number_in
  number_or ns limit r absent = below_or limit r 0
  number_or ns limit r (number n) = below_or limit r n
  number_or ns limit r (named i) = itself
  number_or ns limit r (own_index n) = itself

  item_or : (k : Space) (r : ℕ) (x : Index I) → Or20 (item_no (In true) k r x) (item_no (In false) k r x)
  unfolding item_no count_in
  item_or k r x = number_or (names k) _ r x

  checked_or : (r : ℕ) (t : Bool) (s : FuncType) (n : ℕ) → Or20 (checked (In true) r t s n) (checked (In false) r t s n)
  unfolding checked
  checked_or r t s n = itself

  type_no_of_or : (r : ℕ) (t : Bool) (s : FuncType) (x : Index I) → Or20 (type_no_of (In true) r t s x) (type_no_of (In false) r t s x)
  unfolding type_no_of
  type_no_of_or r t s absent = itself
  type_no_of_or r t s (number n) = next (item_or types r (number n)) (checked_or r t s)
  type_no_of_or r t s (named i) = next (item_or types r (named i)) (checked_or r t s)
  type_no_of_or r t s (own_index n) = next (item_or types r (own_index n)) (checked_or r t s)

  type_no_or : (r : ℕ) (t : TypeUse I) → Or20 (type_no (In true) r t) (type_no (In false) r t)
  unfolding type_no
  type_no_or r t = type_no_of_or r (is_inline t) (signature t) t.index

  block_type_or : (r : ℕ) (t : TypeUse I) → Or20 (block_type (In true) r t) (block_type (In false) r t)
  unfolding block_type
  block_type_or r t = either_or (is_absent t.index && is_short t) itself (next (type_no_or r t) (λ n. itself))

  module _ (locals : Namespace I) where
    local_no_or : (r : ℕ) (x : Index I) → Or20 (local_no (In true) locals r x) (local_no (In false) locals r x)
    unfolding local_no
    local_no_or r x = next (number_or locals (length locals) r x) (λ n. itself)

    depth_of_or : (blocks : Namespace I) (r : ℕ) (x : Index I) → Or20 (depth_of (In true) blocks r x) (depth_of (In false) blocks r x)
    unfolding depth_of
    depth_of_or blocks r x = next (number_or blocks (length blocks + 1) r x) (λ n. itself)

    immediate_or : (blocks : Namespace I) (r : ℕ) (o : Operand I) → Or20 (immediate (In true) locals blocks r o) (immediate (In false) locals blocks r o)
    unfolding immediate
    immediate_or blocks r nothing = itself
    immediate_or blocks r (label x) = next (depth_of_or blocks r x) (λ d. itself)
    immediate_or blocks r (labels xs x) =
        next (each_or (depth_of_or blocks r) xs) λ ds.
        next (depth_of_or blocks r x) (λ d. itself)
    immediate_or blocks r (local x) = next (local_no_or r x) (λ n. itself)
    immediate_or blocks r (item k x) = next (item_or k r x) (λ n. itself)
    immediate_or blocks r (items b xs) = next (each_or (λ x. item_or x.0 r x.1) xs) (λ ns. itself)
    immediate_or blocks r (access e o x) = next (item_or mems r x) (λ n. itself)
    immediate_or blocks r (int32 n) = itself
    immediate_or blocks r (int64 n) = itself
    immediate_or blocks r (raw bs) = itself

    plain_op_or : (blocks : Namespace I) (r : ℕ) (p : Plain I) → Or20 (plain_op (In true) locals blocks r p) (plain_op (In false) locals blocks r p)
    unfolding plain_op
    plain_op_or blocks r p = next (immediate_or blocks r p.operand) (λ i. itself)

    closes_or : (r : ℕ) (l : Option I) (blocks : Namespace I) → Or20 (closes (In true) r l blocks) (closes (In false) r l blocks)
    unfolding closes
    closes_or r none blocks = itself
    closes_or r (some i) [] = itself
    closes_or r (some i) (b ∷ blocks) = itself

    instr_op_or : (blocks : Namespace I) (r : ℕ) (x : Instr I) → Or20 (instr_op (In true) locals blocks r x) (instr_op (In false) locals blocks r x)
    unfolding instr_op
    instr_op_or blocks r (opens op l t) = next (block_type_or r t) (λ b. itself)
    instr_op_or blocks r (elses l) = next (closes_or r l blocks) (λ _. itself)
    instr_op_or blocks r (ends l) = next (closes_or r l blocks) (λ _. itself)
    instr_op_or blocks r (indirect x t) =
        next (item_or tables r x) λ n.
        next (type_no_or r t) (λ y. itself)
    instr_op_or blocks r (plain p) = plain_op_or blocks r p

    body_or : (blocks : Namespace I) (xs : Body I) → Or20 (body (In true) locals blocks xs) (body (In false) locals blocks xs)
    unfolding body
    body_or blocks [] = itself
    body_or blocks ((r, x) ∷ xs) =
        next (instr_op_or blocks r x) λ o.
        next (body_or (blocks_after blocks x) xs) (λ os. itself)

  const_op_or : (r : ℕ) (c : Plain I) → Or20 (const_op (In true) r c) (const_op (In false) r c)
  unfolding const_op
  const_op_or r c = plain_op_or [] [] r c

  distinct_or : (r : ℕ) (ns : Namespace I) → Or20 (distinct_locals (In true) r ns) (distinct_locals (In false) r ns)
  unfolding distinct_locals
  distinct_or r ns = itself

  own_or : (r : ℕ) (o : Own I) (b : Body I) → Or20 (own_item (In true) r o b) (own_item (In false) r o b)
  unfolding own_item
  own_or r (own_func t ls) b =
      next (type_no_or r t) λ n.
      next (distinct_or r (locals_of ts n t ls)) λ _.
      next (body_or (locals_of ts n t ls) [] b) (λ os. itself)
  own_or r (own_table t) b = itself
  own_or r (own_mem l) b = itself
  own_or r (own_global t c) b = next (const_op_or r c) (λ o. itself)

  extern_or : (r : ℕ) (d : ExternType (TypeUse I)) → Or20 (extern_no (In true) r d) (extern_no (In false) r d)
  unfolding extern_no
  extern_or r (func t) = next (type_no_or r t) (λ n. itself)
  extern_or r (table t) = itself
  extern_or r (mem l) = itself
  extern_or r (global g) = itself

  table_or : (r : ℕ) (x : Index I) → Or20 (table_no (In true) r x) (table_no (In false) r x)
  unfolding table_no
  table_or r x = next (item_or tables r x) (λ n. itself)

  mode_or : {X : Type 0} (f g : ℕ → Index I → Answer X) → ((r : ℕ) (x : Index I) → Or20 (f r x) (g r x))
      → (r : ℕ) (m : Mode (Index I) (Plain I)) → Or20 (mode_of (In true) f r m) (mode_of (In false) g r m)
  unfolding mode_of
  mode_or f g h r passive = itself
  mode_or f g h r (active x c) = next (h r x) λ n. next (const_op_or r c) (λ o. itself)

  resolve_or : (r : ℕ) (x : Field I) → Or20 (resolve (In true) r x) (resolve (In false) r x)
  unfolding resolve
  resolve_or r (type_f i t) = itself
  resolve_or r (import_f n i d) = next (extern_or r d) (λ e. itself)
  resolve_or r (own_f i o b) = own_or r o b
  resolve_or r (export_f n k x) = next (item_or k r x) (λ m. itself)
  resolve_or r (start_f x) = next (item_or funcs r x) (λ m. itself)
  resolve_or r (elem_f i m xs) =
      next (mode_or (table_no (In true)) (table_no (In false)) table_or r m) λ y.
      next (each_or (item_or funcs r) xs) (λ ns. itself)
  resolve_or r (data_f i m d) =
      next (mode_or (item_no (In true) mems) (item_no (In false) mems) (item_or mems) r m) (λ y. itself)

  items_or : (fs : Numbered I) → Or20 (Assemble.items_in (In true) fs) (Assemble.items_in (In false) fs)
  unfolding Assemble.items_in resolve_all
  items_or fs = next (each_or (λ x. resolve_or x.0 x.1) fs) (λ is. itself)

-- ## The names: where a strict call resolves a function, its type has the plain call's number

module _ (names : Space → Namespace Identifier) (records : Space → List ℕ) (ts : List FuncType) where
  abbrev At : Bool → Scope Identifier
  At strict = In same_bytes names records ts strict

  accepted : {A : Type 0} {a b : Answer A} → Or20 a b → (x : A) → a ≡ ok x → a ≡ b
  accepted h x e = h.same (ap is_twenty e)

  own-functions : (r : ℕ) (o : Own Identifier) (b : Body Identifier) (i : Item) → own_item (At true) r o b ≡ ok i
      → own_function (At true) r o ≡ own_function (At false) r o
  unfolding own_item own_function
  own-functions r (own_func t ls) b i e =
      let c = came (type_no (At true) r t) _ i e in
      ap (λ a. locals_by ts t ls a ∷ []) (accepted (type_no_or same_bytes names records ts r t) c.0 c.1)
  own-functions r (own_table t) b i e = refl
  own-functions r (own_mem l) b i e = refl
  own-functions r (own_global t c) b i e = refl

  field-functions : (r : ℕ) (x : Field Identifier) (i : Item) → resolve (At true) r x ≡ ok i → function_in (At true) r x ≡ function_in (At false) r x
  unfolding resolve function_in
  field-functions r (type_f i t) j e = refl
  field-functions r (import_f n i d) j e = refl
  field-functions r (own_f i o b) j e = own-functions r o b j e
  field-functions r (export_f n k x) j e = refl
  field-functions r (start_f x) j e = refl
  field-functions r (elem_f i m xs) j e = refl
  field-functions r (data_f i m d) j e = refl

  functions-same : (fs : Numbered Identifier) (is : List Item) → resolve_all (At true) fs ≡ ok is → functions (At true) fs ≡ functions (At false) fs
  unfolding resolve_all functions each concat_map
  functions-same [] is e = refl
  functions-same ((r, x) ∷ fs) is e =
      let c = came (resolve (At true) r x) _ is e in
      let d = came (resolve_all (At true) fs) _ is c.2 in
      rw (field-functions r x c.0 c.1, functions-same fs d.0 d.1)

  section-same : (fs : Numbered Identifier) (is : List Item) → Assemble.items_in (At true) fs ≡ ok is → name_section (At true) fs ≡ name_section (At false) fs
  unfolding Assemble.items_in name_section
  section-same fs is e =
      let c = came (resolve_all (At true) fs) _ is e in
      ap (λ ls. custom_of (subsections (names funcs) ls)) (functions-same fs c.0 c.1)

-- ## Of records, and of calls

resolved_or : {I : Type 0} (eq : I → I → Bool) (rs : List (Rec I)) → Or20 (Assemble.resolved true eq rs) (Assemble.resolved false eq rs)
unfolding Assemble.resolved Assemble.items
resolved_or eq rs =
    rw (scope_then true eq (deinline rs) (λ Γ. Assemble.items_in Γ (deinline rs)), scope_then false eq (deinline rs) (λ Γ. Assemble.items_in Γ (deinline rs)))
    (next itself (λ _. next itself (λ ts. next itself (λ xs. items_or eq (λ k. space k xs) (λ k. definers k xs) ts (deinline rs)))))

module_or : (room : ℕ) (rs : List (Rec Identifier)) → Or20 (Assemble.module_in true same_bytes room rs) (Assemble.module_in false same_bytes room rs)
unfolding Assemble.module_in
module_or room rs = next (resolved_or same_bytes rs) (λ is. itself)

named_or : (room : ℕ) (rs : List (Rec Identifier)) → Or20 (Assemble.named_module_in true room rs) (Assemble.named_module_in false room rs)
unfolding Assemble.named_module_in
named_or room rs =
    rw (scope_then true same_bytes (deinline rs) _, scope_then false same_bytes (deinline rs) _)
    (next itself (λ _. next itself (λ ts. next itself (λ xs.
    next_by (Assemble.items_in (At (λ k. space k xs) (λ k. definers k xs) ts true) (deinline rs)) (items_or same_bytes (λ k. space k xs) (λ k. definers k xs) ts (deinline rs)) (λ is e.
    rw (section-same (λ k. space k xs) (λ k. definers k xs) ts (deinline rs) is e) itself)))))

-- two ways to make a module of which the first says what the second says, or 20
pub record MakesOr20 (strict lax : Assemble.Maker) : Type 0 where
  pub holds : (room : ℕ) (rs : List (Rec Identifier)) → Or20 (strict room rs) (lax room rs)

pub strict-makes : MakesOr20 (Assemble.module_in true same_bytes) (Assemble.module_in false same_bytes)
strict-makes = record { holds = module_or }

pub strict-names_make : MakesOr20 (Assemble.named_module_in true) (Assemble.named_module_in false)
strict-names_make = record { holds = named_or }

module _ (strict lax : Assemble.Maker) (h : MakesOr20 strict lax) where
  say_or : (count : ℕ) (a b : Answer Bytes) → Or20 a b → ((Assemble.say count a).number ≡ 20 → ⊥) → Assemble.say count a ≡ Assemble.say count b
  unfolding Assemble.say
  say_or count (ok bs) b l n = ap (Assemble.say count) (l.same refl)
  say_or count (fails q) b l n = ap (Assemble.say count) (l.same (ne_eqb q.number 20 n))

  -- a call by the first that is not refused by 20 says what a call by the second says
  pub strict_same : (s : Bytes) (work room : ℕ) → ((Assemble.assemble_by strict s work room).number ≡ 20 → ⊥)
      → Assemble.assemble_by strict s work room ≡ Assemble.assemble_by lax s work room
  unfolding Assemble.assemble_by Assemble.say_read
  strict_same s work room n = go (ltb Assemble.longest_stream (length s)) (ltb work Assemble.least_work) (read s) n
    where
      at : Assemble.Maker → Bool → Bool → Answer (List (Rec Identifier)) → Assemble.Said
      at make t u x = if t then Assemble.refusing (refusal 1 0) else if u then Assemble.refusing (refusal 10 0) else Assemble.say_read make room x

      go : (t u : Bool) (x : Answer (List (Rec Identifier))) → ((at strict t u x).number ≡ 20 → ⊥) → at strict t u x ≡ at lax t u x
      go true u x n = refl
      go false true x n = refl
      go false false (ok rs) n = say_or (length rs) (strict room rs) (lax room rs) (h.holds room rs) n
      go false false (fails q) n = refl

  -- and so leaves what it leaves
  pub strict-call : (s : Bytes) (work : List ℕ) (output : Bytes) → ((Assemble.call_by strict s work output).number ≡ 20 → ⊥)
      → Assemble.call_by strict s work output ≡ Assemble.call_by lax s work output
  unfolding Assemble.call_by Assemble.outcome
  strict-call s work output n = ap (Assemble.outcome output work) (strict_same s (length work) (length output) n)
