-- Readers of the definition as the code divides them.
use Rattle.std.specs.Prelude.{[], ◌∷◌}
use Rattle.definition.specs.Syntax as Syntax
use Rattle.definition.specs.Syntax.{Identifier}
use Rattle.definition.specs.Reader.{Reader, byte, choose, ◌>>=◌}
use Rattle.definition.specs.Records.{Room, Extern, Forms, func_extern, table_extern, mem_extern, global_extern, import_form}
use Rattle.definition.specs.Records.{own_func_form, own_table_form, inline_table_form, own_mem_form, inline_mem_form, own_global_form}
use Rattle.syntax.specs.declared.Kind.{Kind}
use Rattle.syntax.specs.declared.Kind.TheVariants as K
use Rattle.syntax.specs.declared.Source.{Source}

abbrev pub extern_of : Kind → Reader Extern
extern_of K.Func = func_extern
extern_of K.Table = table_extern
extern_of K.Mem = mem_extern
extern_of K.Global = global_extern

-- a form byte, and the form that it chooses
unfoldable pub source : Forms → Reader (Syntax.Source Identifier)
source forms = byte >>= λ b. choose b forms

-- the forms of each kind, as the definition's records list them
abbrev pub func_forms : Forms
func_forms = (0, own_func_form) ∷ (1, import_form func_extern) ∷ []

abbrev pub table_forms : Room → Forms
table_forms room = (0, own_table_form) ∷ (1, import_form table_extern) ∷ (2, inline_table_form room) ∷ []

abbrev pub mem_forms : Room → Forms
mem_forms room = (0, own_mem_form) ∷ (1, import_form mem_extern) ∷ (2, inline_mem_form room) ∷ []

abbrev pub global_forms : Forms
global_forms = (0, own_global_form) ∷ (1, import_form global_extern) ∷ []

abbrev pub forms_of : Room → Kind → Forms
forms_of room K.Func = func_forms
forms_of room K.Table = table_forms room
forms_of room K.Mem = mem_forms room
forms_of room K.Global = global_forms
