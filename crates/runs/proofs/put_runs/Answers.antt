use Rattle.binary.proofs.Parts.{put-vec, put-vec-before}
use Rattle.runs.proofs.put_runs.Goals as goal

pub returns-then-at-out : goal.returns-then-at-out
returns-then-at-out c = search put-vec-before

pub returns : goal.returns
returns c = search put-vec
