use borrow.Author.Rules.{rules}
use Rattle.runs.proofs.Running.{run-one, run-after, run-ats}
use Rattle.runs.proofs.run_at.Goals as goal

pub returns-then-count-eq0 : goal.returns-then-count-eq0
returns-then-count-eq0 c = search (rules, run-ats) depth 6

pub known_local-requires : goal.known_local-requires
known_local-requires c = search (rules, run-one)

pub run_from-requires : goal.run_from-requires
run_from-requires c = search (rules, run-after)

pub returns-in-Ok : goal.returns-in-Ok
returns-in-Ok c = search (rules, run-ats) depth 6

pub returns-in-Err : goal.returns-in-Err
returns-in-Err c = search (rules, run-ats) depth 6
