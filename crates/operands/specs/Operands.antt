-- Constants, labels and lists of indices: the bytes of what is resolved.
use Rattle.std.specs.Prelude.{ℕ, ◌≤◌, Bool, List, [], ◌∷◌, if◌then◌else◌}
use Rattle.definition.specs.Basic.{Answer, each}
use Rattle.definition.specs.Syntax.{Bytes, Depth, Identifier, Index, Op, Space, funcs, int32_imm, int64_imm}
use Rattle.definition.specs.Names.{item_no, depth_of}
use Rattle.definition.specs.Binary.{u, expr}
use Rattle.scope.specs.Scope.{scope_in, labels_in}
use Rattle.operands.specs.declared.indices.Target.{Target}
use Rattle.operands.specs.declared.indices.Target.TheVariants as T

-- one instruction and the end
unfoldable pub const_bytes : Op → Bytes
const_bytes o = expr (o ∷ [])

-- a label's depth
unfoldable pub depth_bytes : Depth → Bytes
depth_bytes d = u d.depth

-- offset 0, resolved
unfoldable pub zero_op : Bool → Op
zero_op wide = if wide then record { opcode = 0x42; imm = int64_imm 0 } else record { opcode = 0x41; imm = int32_imm 0 }

-- ## What the indices of a list refer to

unfoldable pub FewBlocks : Target → Type 0
FewBlocks T.Func = Unit {0}
FewBlocks (T.Label blocks) = blocks ≤ 128

-- a function's number, or a label's depth
abbrev pub Meant : Target → Type 0
Meant T.Func = ℕ
Meant (T.Label blocks) = Depth

unfoldable pub bytes_of : (to : Target) → Meant to → Bytes
bytes_of T.Func n = u n
bytes_of (T.Label blocks) d = depth_bytes d

unfoldable pub target_of : (s w : List ℕ) (to : Target) (rec : ℕ) → Index Identifier → Answer (Meant to)
target_of s w T.Func rec x = item_no (scope_in s w) funcs rec x
target_of s w (T.Label blocks) rec x = depth_of (scope_in s w) (labels_in s w blocks) rec x

-- ## Indices of several spaces

-- their numbers, each in its own space
unfoldable pub numbers_of : (s w : List ℕ) (rec : ℕ) → List (Space × Index Identifier) → Answer (List ℕ)
numbers_of s w rec xs = each (λ x. item_no (scope_in s w) x.0 rec x.1) xs
