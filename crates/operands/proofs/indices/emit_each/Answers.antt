use Rattle.syntax.proofs.Ways.{handed}
use borrow.Author.Rules.{rules}
use native.Mathlib.Omega.{arith}
use Rattle.operands.proofs.Turns.{each-begin, each_again, each_halts, each-fault, each-done}
use Rattle.operands.proofs.indices.emit_each.Goals as goal

pub loop-init : goal.loop-init
loop-init c = search (each-begin, rules)

pub loop-preserved : goal.loop-preserved
loop-preserved c = search (each_again, rules, c.in_ok-o.was)

pub returns-in_err-o : goal.returns-in_err-o
returns-in_err-o c =
    rw (handed _ _ c.from_residual.ensures.0 c.from_residual.ensures.1)
    (each_halts c.loop.invariant _ c.read_present.ensures _ _ (omega (arith, c.loop-test.true)) c.in-Ok.is _ _ _ c.emit_index.ensures c.in_err-o.was)

pub returns-in_default : goal.returns-in_default
returns-in_default c = search (each-fault, rules)

pub returns : goal.returns
returns c = each-done c.loop.invariant (omega (arith, c.loop-test.false))
