use Rattle.scope.proofs.Numbers.{uses}
use Rattle.scope.proofs.types.type_no.Goals as goal

pub returns-in-Absent : goal.returns-in-Absent
returns-in-Absent c = search (uses) depth 12

pub returns-in-Number : goal.returns-in-Number
returns-in-Number c = search (uses) depth 12

pub returns-in-Named : goal.returns-in-Named
returns-in-Named c = search (uses) depth 12
