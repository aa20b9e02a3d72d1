use Prim.Native.Nat.{◌-◌}
use Rattle.emit.proofs.Stored.{begin, again, done}
use Rattle.emit.proofs.copy.Goals as goal

pub loop-i-init : goal.loop-i-init
loop-i-init c = search begin

pub loop-i-preserved : goal.loop-i-preserved
loop-i-preserved c = search again

pub returns : goal.returns
returns c = search done
