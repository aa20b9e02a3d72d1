use Rattle.definition.specs.Reader.{many}
use Rattle.token.proofs.Runs.{bytes_in_lem, bytes_out}
use native.Mathlib.Omega.{arith}
use Rattle.token.proofs.byte.pass_bytes.Goals as goal

pub returns-then-n-eq0 : goal.returns-then-n-eq0
unfolding many
returns-then-n-eq0 c = rw c.if-n-eq0.true

pub returns-then-s-at : goal.returns-then-s-at
returns-then-s-at c = bytes_out _ _ _ (omega arith) (omega arith)

pub returns-then-s-at-2 : goal.returns-then-s-at-2
returns-then-s-at-2 c = bytes_out _ _ _ (omega arith) (omega arith)

pub returns : goal.returns
returns c = bytes_in_lem _ _ _ (omega arith)
