use Rattle.scope.proofs.Numbers.{goings}
use Rattle.scope.proofs.types.goes_short.Goals as goal

pub returns-in-Absent : goal.returns-in-Absent
returns-in-Absent c = search (goings) depth 12

pub returns-in-Number : goal.returns-in-Number
returns-in-Number c = search (goings) depth 12

pub returns-in-Named : goal.returns-in-Named
returns-in-Named c = search (goings) depth 12
