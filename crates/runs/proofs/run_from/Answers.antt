use borrow.Author.Rules.{rules}
use Rattle.runs.proofs.Running.{run-begin, run-readable, run-done, run-fault, run-other, run_again}
use Rattle.runs.proofs.run_from.Goals as goal

pub loop-i-init : goal.loop-i-init
loop-i-init c = search (rules, run-begin)

pub known_local-requires : goal.known_local-requires
known_local-requires c = search (rules, run-readable)

pub returns-then-l-value : goal.returns-then-l-value
returns-then-l-value c = search (rules, run-other)

pub returns-in_default : goal.returns-in_default
returns-in_default c = search (rules, run-fault)

pub loop-i-preserved : goal.loop-i-preserved
loop-i-preserved c = search (rules, run_again)

pub returns : goal.returns
returns c = search (rules, run-done)
