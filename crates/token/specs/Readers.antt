-- Readers of the definition as the code divides them.
use Rattle.std.specs.Prelude.{ℕ, [], ◌∷◌, leb}
use Rattle.definition.specs.Syntax as Syntax
use Rattle.definition.specs.Syntax.{Identifier}
use Rattle.definition.specs.Reader.{Reader, give, require, choose, ◌>>=◌, ◌>>◌}
use Rattle.definition.specs.Token as Token
use Rattle.syntax.specs.declared.Index.{Index}

-- the length of an identifier that must have at least one byte
unfoldable pub name_length : Reader ℕ
name_length = do
  n ← Token.up_to 5 64
  require 5 (leb 1 n)
  give n

-- an index that is present, after the byte that says how it is given
unfoldable pub given : ℕ → Reader (Syntax.Index Identifier)
given b = choose b ((1, Token.number_index) ∷ (2, Token.named_index) ∷ [])
