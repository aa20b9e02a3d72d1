use Rattle.interning.proofs.Handled.{handles_indexed, handing}
use Rattle.interning.proofs.Bodies.{func-body, func_skips, func-refused}
use native.Mathlib.Omega.{arith}
use mathlib.Core.Path.{refl}
use borrow.Author.Rules.{rules}
use Rattle.interning.proofs.body.use_func.Goals as goal

pub use_body-requires : goal.use_body-requires
use_body-requires c = (search rules, handles_indexed _ _ _ _ _ _ _ _ c.use_type.ensures _ c.in_ok-k.was, omega (arith, c.requires.2), search rules)

pub returns-then-looks : goal.returns-then-looks
returns-then-looks c = search (func-body, refl, rules)

pub returns : goal.returns
returns c = search (func_skips, refl, rules)

pub returns-in_err-k : goal.returns-in_err-k
returns-in_err-k c = search (func-refused, handing, rules)
