-- What the answers of the readers mean.
use Rattle.syntax.specs.Reads.{Read, step}
use Rattle.std.specs.Prelude.{ℕ, zero, suc, List, [], ◌∷◌}
use Rattle.definition.specs.Syntax as Syntax
use Rattle.definition.specs.Syntax.{Bytes, Identifier, ValType}
use Rattle.definition.specs.Reader.{Step, got, fault, Reader}
use Rattle.definition.specs.Token as Token
use Rattle.syntax.specs.Tokens.{id_of, index_of}
use Rattle.syntax.specs.declared.Local.{Local}
use Rattle.syntax.specs.declared.Elem.{Elem}
use Rattle.syntax.specs.declared.Elem.TheVariants as E
use Rattle.syntax.specs.declared.List as Code
use Rattle.syntax.specs.declared.TypeUse.{TypeUse}

abbrev pub local_of : Bytes → Local → Syntax.Local Identifier
local_of s l = record { id = id_of s l.id; type = l.value }

abbrev pub local_at : Bytes → Read Local → Step (Syntax.Local Identifier)
local_at s = step (local_of s)

-- what the elements of a list are, and how one is read
abbrev pub Of : Elem → Type 0
Of E.Local = Syntax.Local Identifier
Of E.Type = ValType
Of E.String = Bytes
Of E.Index = Syntax.Index Identifier

abbrev pub elem : (w : Elem) → Reader (Of w)
elem E.Local = Token.param
elem E.Type = Token.val_type
elem E.String = Token.string
elem E.Index = Token.present

-- what a reader gives at a place, n times at most, up to the first that it does not read
abbrev pub on_step : {A B : Type 0} → Step A → (A → ℕ → B) → B → B
on_step (got x next) f z = f x next
on_step (fault n) f z = z

unfoldable pub elements : {A : Type 0} → Reader A → Bytes → ℕ → ℕ → List A
elements p s at zero = []
elements p s at (suc n) = on_step (p s at) (λ x next. x ∷ elements p s next n) []

abbrev pub list_of : {A : Type 0} → Reader A → Bytes → Code.List → List A
list_of p s l = elements p s l.at l.count

abbrev pub list_at : {A : Type 0} → Reader A → Bytes → Read Code.List → Step (List A)
list_at p s = step (list_of p s)

abbrev pub use_of : Bytes → TypeUse → Syntax.TypeUse Identifier
use_of s t = record { index = index_of s t.index; params = list_of Token.param s t.params; results = list_of Token.val_type s t.results }

abbrev pub use_at : Bytes → Read TypeUse → Step (Syntax.TypeUse Identifier)
use_at s = step (use_of s)
