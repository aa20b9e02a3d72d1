use native.Mathlib.Omega.{arith}
use Rattle.leb.proofs.Reading.{begin_at, again_at, cut, mul_fits, sum_fits, scale_fits, ends, again, last_mul_fits, last_sum_fits, last_ends, last_refused}
use Rattle.leb.proofs.read.groups_at.Goals as goal

pub loop-init : goal.loop-init
loop-init c = search (begin_at, arith)

pub returns-then-s-here : goal.returns-then-s-here
returns-then-s-here c = search (cut, arith)

pub overflow_mul-value : goal.overflow_mul-value
overflow_mul-value c = search (mul_fits, arith)

pub overflow_add-value : goal.overflow_add-value
overflow_add-value c = search (sum_fits, arith)

pub returns-then-b-lt128 : goal.returns-then-b-lt128
returns-then-b-lt128 c = search (ends, arith)

pub overflow_mul-scale : goal.overflow_mul-scale
overflow_mul-scale c = search (scale_fits, arith)

pub loop-preserved : goal.loop-preserved
loop-preserved c = again_at _ (again c.loop.invariant c.requires (omega (arith, c.loop-test.true)) c.if-s-here.false c.if-b-lt128.false)

pub returns-then-s-here-2 : goal.returns-then-s-here-2
returns-then-s-here-2 c = search (cut, arith)

pub returns-then-last-b : goal.returns-then-last-b
returns-then-last-b c = search (last_refused, arith)

pub overflow_mul-value-2 : goal.overflow_mul-value-2
overflow_mul-value-2 c = search (last_mul_fits, arith)

pub overflow_add-value-2 : goal.overflow_add-value-2
overflow_add-value-2 c = search (last_sum_fits, arith)

pub returns : goal.returns
returns c = search (last_ends, arith)
