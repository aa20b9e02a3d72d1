use Rattle.laws.proofs.Exits.{exits}
use Rattle.stream.proofs.Exported.{second-answer}
use Rattle.stream.specs.Export.{told_in}
use Rattle.stream.proofs.export.tell.Goals as goal

pub bounds-answer-1 : goal.bounds-answer-1
bounds-answer-1 c = search second-answer

pub returns-then-answer-ge2 : goal.returns-then-answer-ge2
unfolding told_in
returns-then-answer-ge2 c = search (exits) depth 12

pub returns-else-answer-ge2 : goal.returns-else-answer-ge2
unfolding told_in
returns-else-answer-ge2 c = search (exits) depth 12
