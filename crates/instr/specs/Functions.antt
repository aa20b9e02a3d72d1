-- A function by its places: its head was read, and its body follows.
use Rattle.std.specs.Prelude.{ℕ, ◌+◌}
use Rattle.std.proofs.Math.Option.{none}
use Rattle.definition.specs.Syntax as Syntax
use Rattle.definition.specs.Syntax.{Bytes, Identifier}
use Rattle.definition.specs.Token as Token
use Rattle.syntax.specs.TypeUses.{list_of, use_of}
use Rattle.syntax.specs.declared.List as Code
use Rattle.syntax.specs.declared.TypeUse.{TypeUse}
use Rattle.instr.specs.Bodies.{body_from}

-- an own function whose body begins at `here`; `r` is its record
unfoldable pub func_field : Bytes → ℕ → TypeUse → Code.List → ℕ → Syntax.Field Identifier
func_field s r t ls here = Syntax.own_f none (Syntax.own_func (use_of s t) (list_of Token.param s ls)) (body_from 0 (r + 1) s here).body
