use Rattle.emit.proofs.Moved.{begin, again, done}
use Rattle.emit.proofs.move_up.Goals as goal

pub loop-left-init : goal.loop-left-init
loop-left-init c = search begin

pub loop-left-preserved : goal.loop-left-preserved
loop-left-preserved c = search again

pub returns : goal.returns
returns c = search done
