use borrow.Author.Rules.{rules}
use Prim.Native.Nat.{◌-◌}
use mathlib.Core.Path.{refl, ◌∙◌, ap}
use Rattle.std.specs.Prelude.{Some}
use Rattle.syntax.specs.declared.BodyRec.{BodyRec}
use Rattle.instr.proofs.Known.{body-readable}
use Rattle.interning.proofs.Handled.{hands_on}
use Rattle.interning.proofs.Bodies.{body-begin, body-read, body_tree, body_refused, body_again, fold-refused, fold_again, fold_less, body-ends, bodies-over, read-nests}
use Rattle.interning.proofs.body.use_body.Goals as goal

pub loop-r-init : goal.loop-r-init
loop-r-init c = search body-begin

pub known_body-requires : goal.known_body-requires
known_body-requires c = search (body-read, rules)

pub use_instr-requires : goal.use_instr-requires
use_instr-requires c = search (body-readable, rules)

pub returns-in_err-m-in-Some-Instr : goal.returns-in_err-m-in-Some-Instr
returns-in_err-m-in-Some-Instr c =
    let d = c.in-Some-Instr.is ∙ ap (λ (z : BodyRec). Some z) c.in-Some-Instr.field-0-is in
    hands_on _ _ _ c.in_err-m-in-Some-Instr.field-0.0 _ _ _ _ _ c.from_residual.ensures.0 c.from_residual.ensures.1
    (body_refused _ _ _ _ _ _ _ _ _ _ c.loop-r.invariant c.known_body.result c.loop-r-test.true c.known_body.ensures.0 c.in-Some-Instr.i c.in-Some-Instr.next d _ _ c.use_instr.ensures _ c.in_err-m-in-Some-Instr.was)

pub depth_after-depth-requires : goal.depth_after-depth-requires
depth_after-depth-requires c =
    read-nests c.args.s.now c.loop-r.here c.loop-r.depth c.known_body.result c.in-Some-Instr.i c.in-Some-Instr.next c.known_body.ensures.0
    (c.in-Some-Instr.is ∙ ap (λ (z : BodyRec). Some z) c.in-Some-Instr.field-0-is)

pub loop-r-preserved-in-Some-Instr : goal.loop-r-preserved-in-Some-Instr
loop-r-preserved-in-Some-Instr c = search (body_again, refl, rules)

pub use_folded-requires : goal.use_folded-requires
use_folded-requires c =
    let d = c.in-Some-Folded.is ∙ ap (λ (z : BodyRec). Some z) c.in-Some-Folded.field-0-is in
    (search rules, search rules, search rules, body_tree _ _ _ _ _ _ _ _ _ _ c.loop-r.invariant c.known_body.result c.loop-r-test.true c.known_body.ensures.0 d)

pub loop-r-smaller : goal.loop-r-smaller
loop-r-smaller c =
    let d = c.in-Some-Folded.is ∙ ap (λ (z : BodyRec). Some z) c.in-Some-Folded.field-0-is in
    fold_less _ _ _ _ _ _ _ _ _ _ c.loop-r.invariant c.known_body.result c.loop-r-test.true c.known_body.ensures.0 d _ _ c.use_folded.ensures _ _ c.in_ok-m-in-Some-Folded.was

pub loop-r-preserved : goal.loop-r-preserved
loop-r-preserved c = search (fold_again, refl, rules)

pub returns-in_err-m-in-Some-Folded : goal.returns-in_err-m-in-Some-Folded
returns-in_err-m-in-Some-Folded c =
    let d = c.in-Some-Folded.is ∙ ap (λ (z : BodyRec). Some z) c.in-Some-Folded.field-0-is in
    hands_on _ _ _ c.in_err-m-in-Some-Folded.field-0.0 _ _ _ _ _ c.from_residual-in_err-m-in-Some-Folded.ensures.0 c.from_residual-in_err-m-in-Some-Folded.ensures.1
    (fold-refused _ _ _ _ _ _ _ _ _ _ c.loop-r.invariant c.known_body.result c.loop-r-test.true c.known_body.ensures.0 d _ _ c.use_folded.ensures _ c.in_err-m-in-Some-Folded.was)

pub returns-in-Some-End : goal.returns-in-Some-End
returns-in-Some-End c =
    body-ends _ _ _ _ _ _ _ _ _ _ c.loop-r.invariant c.known_body.result c.loop-r-test.true c.known_body.ensures.0 _
    (c.in-Some-End.is ∙ ap (λ (z : BodyRec). Some z) c.in-Some-End.field-0-is)

pub returns-in-None : goal.returns-in-None
returns-in-None c = search bodies-over

pub returns : goal.returns
returns c = search bodies-over
