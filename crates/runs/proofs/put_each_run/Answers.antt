use borrow.Author.Rules.{rules}
use Rattle.runs.proofs.Running.{count-begin, count-readable, count_again, count-few, count-nothing, count-done, put_again_lem, put-nothing, put-done}
use Rattle.binary.proofs.Putting.{putting_begin, putting_long}
use native.Mathlib.Omega.{arith}
use Rattle.runs.proofs.put_each_run.Goals as goal

pub loop-n-init : goal.loop-n-init
loop-n-init c = (search count-begin, search (rules, putting_begin))

pub run_at-requires : goal.run_at-requires
run_at-requires c = search (rules, count-readable)

pub loop-n-preserved : goal.loop-n-preserved
loop-n-preserved c = (search count_again, search put_again_lem)

pub shape_of-out-in_default : goal.shape_of-out-in_default
shape_of-out-in_default c = search (rules, putting_long)

pub returns-in_default : goal.returns-in_default
returns-in_default c = (search count-few, search count-nothing, search put-nothing)

pub returns : goal.returns
returns c = (omega arith, search count-done, search put-done)
