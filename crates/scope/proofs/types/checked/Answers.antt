use Rattle.scope.proofs.Numbers.{checks}
use Rattle.scope.proofs.types.checked.Goals as goal

pub returns-in-Same : goal.returns-in-Same
returns-in-Same c = search (checks) depth 12

pub returns-in-Differs : goal.returns-in-Differs
returns-in-Differs c = search (checks) depth 12

pub returns-in-NoType : goal.returns-in-NoType
returns-in-NoType c = search (checks) depth 12

pub returns : goal.returns
returns c = search (checks) depth 12
