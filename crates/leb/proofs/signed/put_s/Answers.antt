use borrow.Author.Rules.{rules}
use Rattle.leb.proofs.WritingSigned.{begin, high_fits, nearer, again, ends_at, same-long}
use Rattle.leb.proofs.signed.put_s.Goals as goal

pub loop-out-init : goal.loop-out-init
loop-out-init c = search (begin, rules)

pub overflow_add-low7 : goal.overflow_add-low7
overflow_add-low7 c = search high_fits

pub loop-out-smaller : goal.loop-out-smaller
loop-out-smaller c = search nearer

pub loop-out-preserved : goal.loop-out-preserved
loop-out-preserved c = search again

pub shape_of-out : goal.shape_of-out
shape_of-out c = search same-long

pub returns : goal.returns
returns c = search ends_at
