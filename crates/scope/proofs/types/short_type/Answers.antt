use borrow.Author.Rules.{rules}
use Rattle.scope.proofs.Numbers.{shorts}
use Rattle.scope.proofs.types.short_type.Goals as goal

pub returns-then-l-eq0 : goal.returns-then-l-eq0
returns-then-l-eq0 c = search (rules, shorts) depth 12

pub returns-in-Ok : goal.returns-in-Ok
returns-in-Ok c = search (rules, shorts) depth 12

pub returns-in-Err : goal.returns-in-Err
returns-in-Err c = search (rules, shorts) depth 12
