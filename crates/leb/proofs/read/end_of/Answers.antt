use Rattle.leb.proofs.Reading.{end_first, end_some, end_padded}
use Rattle.leb.proofs.read.end_of.Goals as goal

pub returns-then-scale-eq1 : goal.returns-then-scale-eq1
returns-then-scale-eq1 c = search end_first

pub returns-then-b-eq0 : goal.returns-then-b-eq0
returns-then-b-eq0 c = search end_padded

pub returns : goal.returns
returns c = search end_some
