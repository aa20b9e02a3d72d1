use borrow.Author.Rules.{rules}
use Rattle.leb.proofs.Writing.{begin, again, ends, same-long}
use Rattle.leb.proofs.unsigned.put_u.Goals as goal

pub loop-rest-init : goal.loop-rest-init
loop-rest-init c = search (begin, rules)

pub loop-rest-preserved : goal.loop-rest-preserved
loop-rest-preserved c = search again

pub shape_of-out : goal.shape_of-out
shape_of-out c = search same-long

pub returns : goal.returns
returns c = search ends
