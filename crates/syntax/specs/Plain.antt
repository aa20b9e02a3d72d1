-- What the answers of the readers mean.
use Rattle.std.specs.Prelude.{Ok, Err}
use Rattle.syntax.specs.Reads.{Read, Pass, step}
use Rattle.syntax.specs.Refusals.{number}
use Rattle.std.specs.Prelude.{ℕ, List, [], ◌∷◌}
use Rattle.std.proofs.Math.Option.{Option, none, some}
use Rattle.definition.specs.Syntax as Syntax
use Rattle.definition.specs.Syntax.{Bytes, Identifier, nothing, label, labels, local, item, items, access, int32, int64, raw}
use Rattle.definition.specs.Reader.{Step, got, fault}
use Rattle.definition.specs.Token as Token
use Rattle.definition.specs.Instructions as Instructions
use Rattle.syntax.specs.Tokens.{part_of, space_of, index_of}
use Rattle.syntax.specs.TypeUses.{list_of, on_step}
use Rattle.syntax.specs.declared.Spaces.{Spaces}
use Rattle.syntax.specs.declared.Spaces.TheVariants as P
use Rattle.syntax.specs.declared.Operand.{Operand}
use Rattle.syntax.specs.declared.Operand.TheVariants as O
use Rattle.syntax.specs.declared.Plain.{Plain}
use Rattle.syntax.specs.declared.Operands.{Operands}
use Rattle.syntax.specs.declared.Operands.TheVariants as W

-- ## Indices of several spaces, known by the place of the first

abbrev pub spaces_is : Spaces → Option (List Syntax.Space)
spaces_is P.None = none
spaces_is (P.One k) = some (space_of k ∷ [])
spaces_is (P.Two j k) = some (space_of j ∷ space_of k ∷ [])

-- the indices at a place, one of each space, up to the first that cannot be read
unfoldable pub indices_at : List Syntax.Space → Bytes → ℕ → List (Syntax.Space × Syntax.Index Identifier)
indices_at [] s at = []
indices_at (k ∷ ks) s at = on_step (Instructions.index_in k s at) (λ x next. (k, x) ∷ indices_at ks s next) []

-- the indices after a second byte
abbrev pub bulk_at : Option (List Syntax.Space) → Bytes → ℕ → List (Syntax.Space × Syntax.Index Identifier)
bulk_at none s at = []
bulk_at (some ks) s at = indices_at ks s at

-- ## Instructions

abbrev pub operand_of : Bytes → Operand → Syntax.Operand Identifier
operand_of s O.Nothing = nothing
operand_of s (O.Label x) = label (index_of s x)
operand_of s (O.Labels xs x) = labels (list_of Token.present s xs) (index_of s x)
operand_of s (O.Local x) = local (index_of s x)
operand_of s (O.Item k x) = item (space_of k) (index_of s x)
operand_of s (O.Items b at) = items b (bulk_at (Instructions.spaces_of b) s at)
operand_of s (O.Access e o x) = access e o (index_of s x)
operand_of s (O.Int32 n) = int32 n
operand_of s (O.Int64 n) = int64 n
operand_of s (O.Raw p) = raw (part_of s p)
operand_of s (O.Heap t) = raw (t ∷ [])

abbrev pub plain_is : Bytes → Plain → Syntax.Plain Identifier
plain_is s p = record { opcode = p.opcode; operand = operand_of s p.operand }

abbrev pub plain_at : Bytes → Read Plain → Step (Syntax.Plain Identifier)
plain_at s = step (plain_is s)

-- ## Constants, known by their places

-- what stands for a constant where none can be read
abbrev pub no_constant : Syntax.Plain Identifier
no_constant = record { opcode = 0; operand = nothing }

-- the constant at a place
unfoldable pub constant_at : Bytes → ℕ → Syntax.Plain Identifier
constant_at s at = on_step (Instructions.constant s at) (λ c next. c) no_constant

-- a constant that was passed over
abbrev pub constant_past : Bytes → ℕ → Pass → Step (Syntax.Plain Identifier)
constant_past s at (Ok next) = got (constant_at s at) next
constant_past s at (Err e) = fault (number e)

-- ## What stands after an opcode

abbrev pub operands_is : Operands → Instructions.Operands
operands_is W.Bare = Instructions.bare
operands_is W.LabelIdx = Instructions.labelidx
operands_is W.LabelIdxs = Instructions.labelidxs
operands_is W.LocalIdx = Instructions.localidx
operands_is W.FuncIdx = Instructions.funcidx
operands_is W.GlobalIdx = Instructions.globalidx
operands_is W.MemIdx = Instructions.memidx
operands_is W.MemArg = Instructions.memarg
operands_is W.I32 = Instructions.i32
operands_is W.I64 = Instructions.i64
operands_is W.F32 = Instructions.f32
operands_is W.F64 = Instructions.f64
operands_is W.HeapType = Instructions.heaptype
operands_is W.Bulk = Instructions.bulk
