use Rattle.interning.proofs.Takes.{ways}
use Rattle.interning.proofs.uses.use_type.Goals as goal

pub returns-in-Absent : goal.returns-in-Absent
returns-in-Absent c = search (ways) depth 8

pub returns-in-Number : goal.returns-in-Number
returns-in-Number c = search (ways) depth 8

pub returns-in-Named : goal.returns-in-Named
returns-in-Named c = search (ways) depth 8
