-- No entry of an item is empty, so no section has more entries than bytes.
use Rattle.std.specs.Prelude.{if◌then◌else◌}
use Prim.Native.Nat.{ℕ, zero, suc, ◌+◌, ◌/◌, ◌%◌, ◌≤◌}
use mathlib.Core.Bool.{Bool, true, false}
use mathlib.Core.List.{List, [], ◌∷◌, ◌++◌}
use mathlib.Core.Option.{Option, none, some}
use lib.Dec.{eqb, ltb}
use lib.ListN.{length, length-append}
use native.Mathlib.Omega.{arith}
use Rattle.definition.specs.Basic.{concat_map}
use Rattle.definition.specs.Syntax.{Bytes, ValType, Limits, Op, passive, active}
use Rattle.definition.specs.Syntax.{Item, type_i, import_i, func_i, table_i, mem_i, global_i, export_i, start_i, elem_i, data_i}
use Rattle.definition.specs.Binary.{unsigned, u, sized, limits, limits_of, table_type, global_type, extern_type, expr, func_code, elem, data', entries, in_section, joined}
use Rattle.deinline.specs.Entry.{Entries, untyped}
use Rattle.module.specs.Length.{Good}

-- ## Bytes that are not empty

unsigned-some : (m n : ℕ) → 1 ≤ length (unsigned m n)
unfolding unsigned
unsigned-some zero n = omega arith
unsigned-some (suc m) n = go (ltb n 128)
  where
    go : (t : Bool) → 1 ≤ length (if t then n ∷ [] else (n % 128 + 128) ∷ unsigned m (n / 128))
    go true = omega arith
    go false = omega arith

pub u-only : (n : ℕ) → 1 ≤ length (u n)
unfolding u
u-only n = unsigned-some 9 n

pub first_some : (bs cs : Bytes) → 1 ≤ length bs → 1 ≤ length (bs ++ cs)
first_some bs cs h = omega (arith, length-append bs cs)

sized-some : (b : Bytes) → 1 ≤ length (sized b)
unfolding sized
sized-some b = first_some (u (length b)) b (u-only (length b))

code-some : (ls : List ValType) (os : List Op) → 1 ≤ length (func_code ls os)
unfolding func_code
code-some ls os = sized-some _

limits-some : (l : Limits) → 1 ≤ length (limits l)
unfolding limits
limits-some l = go (if l.is64 then 4 else 0) l.minimum l.maximum
  where
    go : (w n : ℕ) (m : Option ℕ) → 1 ≤ length (limits_of w n m)
    go w n none = omega arith
    go w n (some h) = omega arith

data_some : (m : ℕ) (b c : Bytes) → 1 ≤ length (((if eqb m 0 then 0 ∷ [] else 2 ∷ u m) ++ b) ++ c)
data_some m b c = go (eqb m 0)
  where
    go : (t : Bool) → 1 ≤ length (((if t then 0 ∷ [] else 2 ∷ u m) ++ b) ++ c)
    go true = omega arith
    go false = omega arith

-- ## Entries that are not empty

abbrev Full : Entries → Type 0
Full [] = Unit {0}
Full ((j, b) ∷ es) = (1 ≤ length b) × Full es

full_append : (xs ys : Entries) → Full xs → Full ys → Full (xs ++ ys)
full_append [] ys p q = q
full_append ((j, b) ∷ xs) ys p q = (p.0, full_append xs ys p.1 q)

item_full : (i : Item) → Full (untyped i)
unfolding untyped entries table_type global_type elem data'
item_full (type_i t) = tt
item_full (import_i n e) = (first_some (sized n.module_name ++ sized n.item_name) (extern_type e) (first_some (sized n.module_name) (sized n.item_name) (sized-some n.module_name)), tt)
item_full (func_i n ls os) = (u-only n.type_no, (code-some ls os, tt))
item_full (table_i t) = (omega arith, tt)
item_full (mem_i l) = (limits-some l, tt)
item_full (global_i t o) = (omega arith, tt)
item_full (export_i n k x) = (first_some (sized n) _ (sized-some n), tt)
item_full (start_i x) = (u-only x, tt)
item_full (elem_i passive ns) = (omega arith, tt)
item_full (elem_i (active none o) ns) = (omega arith, tt)
item_full (elem_i (active (some t) o) ns) = (omega arith, tt)
item_full (data_i passive d) = (omega arith, tt)
item_full (data_i (active m o) d) = (data_some m (expr (o ∷ [])) (sized d), tt)

items_full : (is : List Item) → Full (concat_map untyped is)
unfolding concat_map
items_full [] = tt
items_full (i ∷ is) = full_append (untyped i) (concat_map untyped is) (item_full i) (items_full is)

full_in : (k : ℕ) (es : Entries) → Full es → length (in_section k es) ≤ length (joined (in_section k es))
unfolding in_section joined concat_map
full_in k [] f = omega arith
full_in k ((j, b) ∷ es) f = go (eqb k j) (full_in k es f.1)
  where
    go : (t : Bool) → length (in_section k es) ≤ length (joined (in_section k es)) → length ((if t then b ∷ [] else []) ++ in_section k es) ≤ length (joined ((if t then b ∷ [] else []) ++ in_section k es))
    go true h = omega (arith, f.0, length-append b (joined (in_section k es)))
    go false h = h

-- ## No more entries than bytes

pub good-items : (is : List Item) → Good (concat_map untyped is)
good-items is = record { each = λ k. full_in k (concat_map untyped is) (items_full is) }
