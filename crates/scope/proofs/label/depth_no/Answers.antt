use Rattle.scope.proofs.Labels.{label-table, depths}
use borrow.Author.Rules.{rules}
use Rattle.scope.proofs.label.depth_no.Goals as goal

pub depth_of-requires : goal.depth_of-requires
depth_of-requires c = search (label-table, rules)

pub returns : goal.returns
returns c = search (rules, depths) depth 12

pub returns-in_err-n : goal.returns-in_err-n
returns-in_err-n c = search (rules, depths) depth 12
