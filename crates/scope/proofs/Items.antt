-- The number of an item.
use Prim.Native.Nat.{ℕ, ◌+◌, ◌*◌, ◌≤◌, min}
use mathlib.Core.Path.{◌≡◌, sym, ◌∙◌}
use mathlib.Core.List.{List}
use lib.ListN.{length, get_or}
use native.Mathlib.Omega.{arith}
use Rattle.area.specs.Layout.{TOTAL, TYPES, WORDS}
use Rattle.area.specs.Flags.{strict_in}
use Rattle.definition.specs.Basic.{Answer, same_bytes}
use Rattle.definition.specs.Syntax.{Identifier, Index, Space, types, code}
use Rattle.definition.specs.Names.{number_in, count_in, item_no}
use Rattle.name_table.specs.Area.{names}
use Rattle.name_table.specs.Tables.{base, name_count, table_of}
use Rattle.name_table.proofs.Tables.{base-low}
use Rattle.name_table.proofs.Walk.{names-length}
use Rattle.type_table.specs.Table.{types_in}
use Rattle.type_table.proofs.Types.{table-length}
use Rattle.scope.specs.Scope.{scope_in, limit_in}
use borrow.Author.Tests.{eq-eqb, ne_eqb}
use mir.Syntax.{w32}
use mir.Val.{Fits}

-- the area's count of a space is the definition's
limit_is : (s w : List ℕ) (k : Space) → count_in (scope_in s w) k ≡ limit_in k w
unfolding count_in limit_in scope_in types_in table_of
limit_is s w k = rw (table-length (min (get_or w TOTAL 0) 256) s w TYPES, names-length (name_count k w) s w (base k))

-- it is that of its names, but for types
module _ (w : List ℕ) (k : Space) (a b : ℕ) (d : a ≡ code k) (e : b ≡ code types) where
  pub limit-types : (n : ℕ) → a ≡ b → n ≡ min (get_or w TOTAL 0) 256 → n ≡ limit_in k w
  unfolding limit_in
  limit-types n f g = rw (eq-eqb (code k) (code types) (sym d ∙ f ∙ e)) g

  pub limit_others : (n : ℕ) → (a ≡ b → ⊥) → n ≡ name_count k w → n ≡ limit_in k w
  unfolding limit_in
  limit_others n f g = rw (ne_eqb (code k) (code types) (λ h. f (d ∙ h ∙ sym e))) g

-- it goes into a word
pub count_fits : (w : List ℕ) (k : Space) (n : ℕ) → n ≡ name_count k w → Fits w32 n
count_fits w k n e = record { fits = omega (arith, e) }

module _ (s w : List ℕ) (k : Space) (b n : ℕ) (d : b ≡ base k) (e : n ≡ name_count k w) where
  -- the table lies in the area
  pub item-table : WORDS ≤ length w → b + 3 * n ≤ length w
  item-table h = omega (arith, base-low k)

  pub item-few : n ≤ 256
  item-few = omega arith

  -- the definition's number is the table's
  pub item-is : (l r : ℕ) (x : Index Identifier) (a : Answer ℕ) → l ≡ limit_in k w → number_in (strict_in w) same_bytes (names n s w b) l r x ≡ a
      → item_no (scope_in s w) k r x ≡ a
  unfolding item_no
  item-is l r x a f h = rw (limit_is s w k, ← f) (unfold scope_in table_of in rw (← e, ← d) h)
