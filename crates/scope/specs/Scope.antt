-- What names mean, by the work area: the definition's scope, the locals of a function, and the open blocks.
use Rattle.std.specs.Prelude.{ℕ, ◌+◌, ◌≤◌, min, List, ◌++◌, get_or, replicate, if◌then◌else◌}
use Rattle.std.proofs.Math.Option.{none}
use Rattle.area.specs.Layout.{BYTES, LABELS, LOCALS, TOTAL}
use Rattle.area.specs.Flags.{strict_in}
use Rattle.definition.specs.Basic.{same_bytes, Answer, ok, ◌>>=◌}
use Rattle.definition.specs.Syntax.{Bytes, Identifier, Space, types, same_space, LocalNo, TypeNo, TypeUse, Index}
use Rattle.definition.specs.Names.{Namespace, Scope, below, item_no, checked}
use Rattle.name_table.specs.Area.{names, labels}
use Rattle.type_table.specs.Table.{types_in}
use Rattle.name_table.specs.Tables.{name_count, table_of}
use Rattle.name_table.specs.Definers.{definers_of}
use Rattle.scope.specs.declared.Locals.{Locals}
use Rattle.definition.specs.Types.{is_inline, signature}

-- ## The scope

unfoldable pub scope_in : Bytes → List ℕ → Scope Identifier
scope_in s w = record { strict = strict_in w; eq = same_bytes; names = λ k. table_of k s w; definers = λ k. definers_of k w; all_types = types_in s w }

-- how many items a space has: the types with those that uses add
unfoldable pub limit_in : Space → List ℕ → ℕ
limit_in k w = if same_space k types then min (get_or w TOTAL 0) 256 else name_count k w

-- ## Locals

-- nameless places first, and then entries
unfoldable pub locals_in : Bytes → List ℕ → Locals → Namespace Identifier
locals_in s w l = replicate l.nameless none ++ names l.count s w LOCALS

-- so few that a number of one goes into a word
pub record FewLocals (l : Locals) : Type 0 where
  pub nameless : l.nameless ≤ BYTES
  pub named : l.count ≤ 128

-- the number of one as an index says it
unfoldable pub told_local : List ℕ → Locals → ℕ → ℕ → Answer LocalNo
told_local w l r n = below (strict_in w) (l.nameless + l.count) r n >>= λ m. ok (record { local_no = m })

-- ## Types

-- the type of a use, as an index says it
unfoldable pub indexed_type : Scope Identifier → ℕ → TypeUse Identifier → Index Identifier → Answer TypeNo
indexed_type Γ r t x = item_no Γ types r x >>= λ n. checked Γ r (is_inline t) (signature t) n

-- ## Open blocks

-- their labels, the innermost first
unfoldable pub labels_in : Bytes → List ℕ → ℕ → Namespace Identifier
labels_in s w k = labels k s w LABELS
