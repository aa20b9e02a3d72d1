use Prim.Native.Nat.{◌-◌}
use Rattle.area.proofs.Cleared.{clear_begin, clear_again, clear_done}
use Rattle.area.proofs.clear.Goals as goal

pub loop-i-init : goal.loop-i-init
loop-i-init c = search clear_begin

pub loop-i-preserved : goal.loop-i-preserved
loop-i-preserved c = search clear_again

pub returns : goal.returns
returns c = search clear_done
