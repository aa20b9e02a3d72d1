use Rattle.scope.proofs.Labels.{label-entry, closings}
use borrow.Author.Rules.{rules}
use Rattle.scope.proofs.label.closes.Goals as goal

pub returns-then-label-eq0 : goal.returns-then-label-eq0
returns-then-label-eq0 c = search (closings) depth 12

pub returns-then-k-eq0 : goal.returns-then-k-eq0
returns-then-k-eq0 c = search (closings) depth 12

pub carries-requires : goal.carries-requires
carries-requires c = search (label-entry, rules)

pub returns-then-carries : goal.returns-then-carries
returns-then-carries c = search (closings) depth 12

pub returns : goal.returns
returns c = search (closings) depth 12
