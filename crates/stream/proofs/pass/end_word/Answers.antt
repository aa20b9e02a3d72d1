use Rattle.laws.proofs.Exits.{exits}
use Rattle.next_record.specs.Uses.{end_word}
use Rattle.stream.proofs.pass.end_word.Goals as goal

pub returns-then-used : goal.returns-then-used
unfolding end_word
returns-then-used c = search (exits) depth 8

pub returns : goal.returns
unfolding end_word
returns c = search (exits) depth 8
