use borrow.Author.Rules.{rules}
use Rattle.syntax.proofs.Ways.{resolves}
use Rattle.definition.specs.Basic.{◌>>=◌}
use Rattle.scope.specs.Scope.{told_local}
use Rattle.scope.proofs.Places.{told_to, limit-fits}
use Rattle.scope.proofs.local.told.Goals as goal

pub overflow_add-l : goal.overflow_add-l
overflow_add-l c = search limit-fits

pub returns-in_err-m : goal.returns-in_err-m
unfolding told_local ◌>>=◌
returns-in_err-m c = search (rules, resolves) depth 12

pub returns : goal.returns
returns c = search (told_to, c.in_ok-m.ensures)
