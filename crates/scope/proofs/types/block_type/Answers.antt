use Rattle.scope.proofs.Numbers.{block_uses_lem, blocks}
use borrow.Author.Rules.{rules}
use Rattle.scope.proofs.types.block_type.Goals as goal

pub returns-then-goes_short : goal.returns-then-goes_short
returns-then-goes_short c = search (rules, blocks) depth 12

pub type_no-requires : goal.type_no-requires
type_no-requires c = search (block_uses_lem, rules)

pub returns : goal.returns
returns c = search (rules, blocks) depth 12

pub returns-in_err-n : goal.returns-in_err-n
returns-in_err-n c = search (rules, blocks) depth 12
