-- A function's entry in the code section.
use Rattle.std.specs.Prelude.{[]}
use Rattle.definition.specs.Syntax as Syntax
use Rattle.definition.specs.Syntax.{Bytes, Item}
use Rattle.definition.specs.Binary.{func_code}

-- the code of a function among its entries
abbrev pub code_of : Item → Bytes
code_of (Syntax.type_i t) = []
code_of (Syntax.import_i n d) = []
code_of (Syntax.func_i n ls os) = func_code ls os
code_of (Syntax.table_i t) = []
code_of (Syntax.mem_i l) = []
code_of (Syntax.global_i t o) = []
code_of (Syntax.export_i n k x) = []
code_of (Syntax.start_i x) = []
code_of (Syntax.elem_i m ns) = []
code_of (Syntax.data_i m d) = []
