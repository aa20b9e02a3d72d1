use Rattle.stream.proofs.Loop.{too_long, too_short, walked}
use Rattle.stream.proofs.pass.read_all.Goals as goal

pub returns-then-s-gt-BYTES : goal.returns-then-s-gt-BYTES
returns-then-s-gt-BYTES c = search (too_long, too_short, walked) depth 6

pub returns-then-work-lt-WORDS : goal.returns-then-work-lt-WORDS
returns-then-work-lt-WORDS c = search (too_long, too_short, walked) depth 6

pub returns : goal.returns
returns c = search (too_long, too_short, walked) depth 6
