use Prim.Native.Nat.{◌-◌}
use Rattle.name_table.proofs.Walk.{differ, same-begin, same_differ, same_again, same-done}
use Rattle.name_table.proofs.name.same.Goals as goal

pub returns-then-a-b : goal.returns-then-a-b
returns-then-a-b c = search differ

pub loop-i-init : goal.loop-i-init
loop-i-init c = search same-begin

pub returns-then-a-i : goal.returns-then-a-i
returns-then-a-i c = search same_differ

pub loop-i-preserved : goal.loop-i-preserved
loop-i-preserved c = search same_again

pub returns : goal.returns
returns c = search same-done
