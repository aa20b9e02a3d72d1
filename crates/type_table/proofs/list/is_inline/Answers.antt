use Rattle.type_table.proofs.Lists.{shorts}
use Rattle.type_table.proofs.list.is_inline.Goals as goal

pub returns-then-any_type : goal.returns-then-any_type
returns-then-any_type c = search (shorts) depth 8

pub returns : goal.returns
returns c = search (shorts) depth 8
