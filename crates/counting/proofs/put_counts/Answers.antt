use Rattle.counting.proofs.Words.{counting-begin, counting_again, counting-done, counting-long}
use borrow.Author.Rules.{rules}
use Rattle.counting.proofs.put_counts.Goals as goal

pub loop-i-init : goal.loop-i-init
loop-i-init c = search counting-begin

pub loop-i-preserved : goal.loop-i-preserved
loop-i-preserved c = search (counting_again, rules)

pub shape_of-work : goal.shape_of-work
shape_of-work c = search counting-long

pub returns : goal.returns
returns c = search (counting-done, rules)
