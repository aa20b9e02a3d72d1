use native.Mathlib.Omega.{arith}
use borrow.Author.Rules.{rules}
use Rattle.emit.proofs.Laws.{put_in, put_out}
use Rattle.emit.proofs.put.Goals as goal

pub returns-then-at-out : goal.returns-then-at-out
returns-then-at-out c = put_in (omega arith) (omega arith)

pub returns : goal.returns
returns c = put_out (omega arith) (omega arith) (search rules)
