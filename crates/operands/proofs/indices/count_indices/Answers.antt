use borrow.Author.Rules.{rules}
use Rattle.operands.proofs.Turns.{count-begin, count_again, count-fault, count-done}
use Rattle.operands.proofs.indices.count_indices.Goals as goal

pub loop-i-init : goal.loop-i-init
loop-i-init c = search (rules, count-begin)

pub loop-i-preserved : goal.loop-i-preserved
loop-i-preserved c = search (rules, count_again)

pub returns-in_default : goal.returns-in_default
returns-in_default c = search (rules, count-fault)

pub returns : goal.returns
returns c = search (rules, count-done)
