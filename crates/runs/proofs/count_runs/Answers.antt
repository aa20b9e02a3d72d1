use borrow.Author.Rules.{rules}
use Rattle.runs.proofs.Running.{count-begin, count-readable, count_again, count-nothing, count-done}
use Rattle.runs.proofs.count_runs.Goals as goal

pub loop-n-init : goal.loop-n-init
loop-n-init c = search (rules, count-begin)

pub run_at-requires : goal.run_at-requires
run_at-requires c = search (rules, count-readable)

pub loop-n-preserved : goal.loop-n-preserved
loop-n-preserved c = search (rules, count_again)

pub returns-in_default : goal.returns-in_default
returns-in_default c = search (rules, count-nothing)

pub returns : goal.returns
returns c = search (rules, count-done)
