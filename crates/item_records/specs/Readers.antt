-- Readers of the definition as the code divides them.
use Rattle.std.specs.Prelude.{List}
use Rattle.std.proofs.Math.Option.{Option}
use Rattle.definition.specs.Syntax as Syntax
use Rattle.definition.specs.Syntax.{Bytes, Identifier, FieldRec, import_r, item_r}
use Rattle.definition.specs.Reader.{Reader, byte, choose, give, ◌>>=◌}
use Rattle.definition.specs.Token as Token
use Rattle.definition.specs.Records.{Forms, own_func_form, func_extern}

-- what follows the exports of an item: its form
unfoldable pub item_of : Forms → Option Identifier → List Bytes → Reader (FieldRec Identifier)
item_of forms i es = byte >>= λ b. choose b forms >>= λ x. give (item_r i es x)

-- what follows the form byte of an own function
unfoldable pub own_item : Option Identifier → List Bytes → Reader (FieldRec Identifier)
own_item i es = own_func_form >>= λ x. give (item_r i es x)

-- what follows the kind byte of an imported function, where there is room for it
unfoldable pub imported_func : Syntax.ImportName → Reader (FieldRec Identifier)
imported_func n = Token.identifier >>= λ i. func_extern >>= λ d. give (import_r n i d)
