use mathlib.Core.Path.{refl}
use borrow.Author.Rules.{rules}
use Rattle.interning.proofs.Handled.{hands_on_to}
use Rattle.instr.proofs.Known.{fold-readable}
use Rattle.instr.proofs.Stretches.{whole-folded}
use Rattle.interning.proofs.Bodies.{trees, tree_done, tree_refused, tree_operand_refused, tree_whole, to_indexed, operands-whole, operands_begin, operands_again, operands-refused, operands-done}
use Rattle.interning.proofs.body.+use_folded_use_operands.Goals as goal

pub use_folded-returns-then-left-lt1 : goal.use_folded-returns-then-left-lt1
use_folded-returns-then-left-lt1 t c = search trees depth 12

pub use_folded-returns-then-rec-ge4096 : goal.use_folded-returns-then-rec-ge4096
use_folded-returns-then-rec-ge4096 t c = search trees depth 12

pub use_folded-known_folded-requires : goal.use_folded-known_folded-requires
use_folded-known_folded-requires t c = search (whole-folded, rules)

pub use_folded-use_operands-requires : goal.use_folded-use_operands-requires
use_folded-use_operands-requires t c = (search rules, (search rules, search rules, search rules, search tree_whole))

pub use_folded-use_instr-requires : goal.use_folded-use_instr-requires
use_folded-use_instr-requires t c = (search rules, to_indexed _ _ _ _ _ _ _ c.use_operands.ensures _ _ c.in_ok-k-in-Ok.was, search rules, search (fold-readable, rules))

pub use_folded-returns-in_ok-m-in-Ok : goal.use_folded-returns-in_ok-m-in-Ok
use_folded-returns-in_ok-m-in-Ok t c =
    tree_done _ _ _ _ _ _ (search rules) (search rules) _ c.known_folded.ensures.0 _ _ _ c.in-Ok.is _ _ c.use_operands.ensures _ _ c.in_ok-k-in-Ok.was _ _ c.use_instr.ensures _ c.in_ok-m-in-Ok.was

pub use_folded-returns-in_err-m-in-Ok : goal.use_folded-returns-in_err-m-in-Ok
use_folded-returns-in_err-m-in-Ok t c =
    hands_on_to _ _ _ c.in_err-m-in-Ok.field-0.0 _ _ _ _ c.from_residual-in_err-m-in-Ok.ensures.0 c.from_residual-in_err-m-in-Ok.ensures.1
    (tree_refused _ _ _ _ _ _ (search rules) (search rules) _ c.known_folded.ensures.0 _ _ _ c.in-Ok.is _ _ c.use_operands.ensures _ _ c.in_ok-k-in-Ok.was _ _ c.use_instr.ensures _ c.in_err-m-in-Ok.was)

pub use_folded-returns-in_err-k-in-Ok : goal.use_folded-returns-in_err-k-in-Ok
use_folded-returns-in_err-k-in-Ok t c =
    hands_on_to _ _ _ c.in_err-k-in-Ok.field-0.0 _ _ _ _ c.from_residual.ensures.0 c.from_residual.ensures.1
    (tree_operand_refused _ _ _ _ _ _ (search rules) (search rules) _ c.known_folded.ensures.0 _ _ _ c.in-Ok.is _ _ c.use_operands.ensures _ c.in_err-k-in-Ok.was)

pub use_folded-returns-in-Err : goal.use_folded-returns-in-Err
use_folded-returns-in-Err t c = search trees depth 12

pub use_operands-loop-due-init : goal.use_operands-loop-due-init
use_operands-loop-due-init t c = search operands_begin

pub use_operands-use_folded-requires : goal.use_operands-use_folded-requires
use_operands-use_folded-requires t c = (search rules, (search rules, search rules, search rules, search operands-whole))

pub use_operands-returns-in_err-m : goal.use_operands-returns-in_err-m
use_operands-returns-in_err-m t c =
    hands_on_to _ _ _ c.in_err-m.field-0.0 _ _ _ _ c.from_residual.ensures.0 c.from_residual.ensures.1
    (operands-refused _ _ _ _ _ _ _ _ _ _ _ _ c.loop-due.invariant c.loop-due-test.true _ _ c.use_folded.ensures _ c.in_err-m.was)

pub use_operands-loop-due-preserved : goal.use_operands-loop-due-preserved
use_operands-loop-due-preserved t c = search (operands_again, refl, rules)

pub use_operands-returns : goal.use_operands-returns
use_operands-returns t c = search operands-done
