-- An else or an end: how it is read, and what the definition makes of it by the work area.
use Rattle.std.specs.Prelude.{ℕ, zero, suc, List}
use Rattle.std.proofs.Math.Option.{Option}
use Rattle.definition.specs.Basic.{Answer, ok, ◌>>=◌}
use Rattle.definition.specs.Syntax.{Bytes, Identifier, Op, no_imm}
use Rattle.definition.specs.Instructions.{Form, elsing, ending}
use Rattle.definition.specs.Names.{closes}
use Rattle.scope.specs.Scope.{scope_in, labels_in}

-- by how many blocks it closes: an else none, an end one
abbrev pub closing_code : ℕ → ℕ
closing_code zero = 0x05
closing_code (suc n) = 0x0B

abbrev pub closing_form : ℕ → Form
closing_form zero = elsing
closing_form (suc n) = ending

unfoldable pub closing_op : Bytes → List ℕ → ℕ → ℕ → ℕ → Option Identifier → Answer Op
closing_op s w k r op l = closes (scope_in s w) r l (labels_in s w k) >>= λ _. ok (record { opcode = op; imm = no_imm })
