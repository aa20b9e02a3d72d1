use Prim.Native.Nat.{◌-◌}
use Rattle.type_table.proofs.Indexed.{empty-begin, empty_again, empty-done}
use Rattle.type_table.proofs.index.clear_heads.Goals as goal

pub loop-i-init : goal.loop-i-init
loop-i-init c = search empty-begin

pub loop-i-preserved : goal.loop-i-preserved
loop-i-preserved c = search empty_again

pub returns : goal.returns
returns c = search empty-done
