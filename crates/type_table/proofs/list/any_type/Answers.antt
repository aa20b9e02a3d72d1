use Rattle.type_table.proofs.Lists.{any_yes, any_no}
use Rattle.type_table.proofs.list.any_type.Goals as goal

pub returns-in-Some : goal.returns-in-Some
returns-in-Some c = search any_yes

pub returns-in-None : goal.returns-in-None
returns-in-None c = search any_no
