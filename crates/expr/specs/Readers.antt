-- Readers of the definition as the code divides them.
use Rattle.std.specs.Prelude.{Ok, Err}
use Rattle.syntax.specs.Reads.{Pass}
use Rattle.syntax.specs.Refusals.{number}
use Rattle.std.specs.Prelude.{ℕ}
use Rattle.definition.specs.Syntax as Syntax
use Rattle.definition.specs.Syntax.{Bytes, Identifier, label, local, item, items, raw}
use Rattle.definition.specs.Reader.{Step, got, fault, Reader, byte, many, ◌>>=◌}
use Rattle.definition.specs.Token as Token
use Rattle.definition.specs.Instructions as Instructions
use Rattle.syntax.specs.Plain.{bulk_at}
use Rattle.syntax.specs.declared.Operand.{Operand}
use Rattle.syntax.specs.declared.Operand.TheVariants as O
use Rattle.syntax.specs.declared.Plain.{Plain}
use Rattle.syntax.specs.declared.Index.{Index}
use Rattle.syntax.specs.declared.Space.TheVariants as K
use Rattle.expr.specs.declared.Refers.{Refers}
use Rattle.expr.specs.declared.Refers.TheVariants as R

-- what an index refers to, among the code's values and among the definition's
abbrev pub operand_to : Refers → Index → Operand
operand_to R.Label x = O.Label x
operand_to R.Local x = O.Local x
operand_to R.Func x = O.Item K.Funcs x
operand_to R.Global x = O.Item K.Globals x

abbrev pub refer : Refers → Syntax.Index Identifier → Syntax.Operand Identifier
refer R.Label x = label x
refer R.Local x = local x
refer R.Func x = item Syntax.funcs x
refer R.Global x = item Syntax.globals x

-- an index that must be present
unfoldable pub indexed : ℕ → Refers → Reader (Syntax.Plain Identifier)
indexed op to = Token.present >>= λ x. Instructions.done op (refer to x)

-- so many raw bytes
unfoldable pub raw_of : ℕ → ℕ → Reader (Syntax.Plain Identifier)
raw_of op len = many len byte >>= λ bs. Instructions.done op (raw bs)

-- the indices after the second byte `b`, passed over
abbrev pub bulk_past : ℕ → Bytes → ℕ → Pass → Step (Syntax.Operand Identifier)
bulk_past b s at (Ok next) = got (items b (bulk_at (Instructions.spaces_of b) s at)) next
bulk_past b s at (Err e) = fault (number e)
