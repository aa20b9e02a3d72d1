use Rattle.laws.proofs.Exits.{exits}
use Rattle.stream.proofs.Loop.{second_word, ends-put}
use Rattle.stream.specs.Pass.{end_put}
use Rattle.stream.proofs.pass.put_end.Goals as goal

pub bounds-work-i-then-n-lt256 : goal.bounds-work-i-then-n-lt256
bounds-work-i-then-n-lt256 c = search second_word

pub returns-then-n-lt256 : goal.returns-then-n-lt256
returns-then-n-lt256 c = search ends-put

pub returns-else-n-lt256 : goal.returns-else-n-lt256
unfolding end_put
returns-else-n-lt256 c = search (exits) depth 12
