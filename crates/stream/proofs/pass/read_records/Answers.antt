use Prim.Native.Nat.{◌-◌}
use Rattle.std.proofs.Common.{rules}
use mathlib.Core.Path.{refl, ap, ◌∙◌}
use Rattle.next_record.specs.Answers.{outside_answer, inside_answer}
use Rattle.next_record.proofs.Steps.{mapped_ok, mapped_err}
use Rattle.stream.proofs.Loop.{begin, walk_ends, walk_refused, full_walk, less_field, again_field, refused-field, less_on, on_first, on_second, less_data, again_data, less_opens, opens-first, opens-second, less_elses, again_elses, less_ends, again_ends, less_folded, again_folded, end_fits, end_few, ended-fits, less_end, again_end, refused-instr}
use Rattle.stream.proofs.pass.read_records.Goals as goal

pub loop-p-init : goal.loop-p-init
loop-p-init c = search begin

pub returns-then-s-p : goal.returns-then-s-p
returns-then-s-p c = search walk_ends

pub returns-then-p-ge4096 : goal.returns-then-p-ge4096
returns-then-p-ge4096 c = search (walk_refused, full_walk)

pub returns-in_err-f : goal.returns-in_err-f
returns-in_err-f c =
    mapped_err _ _ _ c.in_err-f.ensures.cases
    (λ a is made. refused-field _ _ _ _ _ _ _ _ _ c.loop-p.invariant (search rules) (search rules) a _ _ (search rules) c.from_residual.ensures.0 c.from_residual.ensures.1 (search rules) (c.next_field.ensures ∙ ap (outside_answer c.args.s.now) is))

pub returns-in_err-what : goal.returns-in_err-what
returns-in_err-what c =
    mapped_err _ _ _ c.in_err-what.ensures.cases
    (λ a is made. refused-instr _ _ _ _ _ _ _ _ _ c.loop-p.invariant (search rules) (search rules) a _ _ (search rules) c.from_residual-in_err-what.ensures.0 c.from_residual-in_err-what.ensures.1 (search rules) (c.next_instr.ensures ∙ ap inside_answer is))

pub loop-p-smaller-then-p-lt1 : goal.loop-p-smaller-then-p-lt1
loop-p-smaller-then-p-lt1 c = less_field _ _ _ _ _ _ _ _ _ c.loop-p.invariant (search rules) (search rules) _ (search rules) _ (c.next_field.ensures ∙ ap (outside_answer c.args.s.now) (mapped_ok _ c.in_ok-f.ensures.cases))

pub loop-p-preserved-then-p-lt1 : goal.loop-p-preserved-then-p-lt1
loop-p-preserved-then-p-lt1 c = search (rules, again_field)

pub loop-p-smaller-then-used : goal.loop-p-smaller-then-used
loop-p-smaller-then-used c = less_on _ _ _ _ _ _ _ _ _ c.loop-p.invariant (search rules) (search rules) _ (search rules) _ (c.next_instr.ensures ∙ ap inside_answer (mapped_ok _ c.in_ok-what.ensures.cases)) _ c.in-On.is

pub loop-p-preserved-then-used : goal.loop-p-preserved-then-used
loop-p-preserved-then-used c = on_first _ _ _ _ _ _ _ _ _ c.loop-p.invariant (search rules) (search rules) _ (search rules) _ (c.next_instr.ensures ∙ ap inside_answer (mapped_ok _ c.in_ok-what.ensures.cases)) _ _ c.in-On.is refl (search rules)

pub loop-p-smaller-else-used : goal.loop-p-smaller-else-used
loop-p-smaller-else-used c = less_on _ _ _ _ _ _ _ _ _ c.loop-p.invariant (search rules) (search rules) _ (search rules) _ (c.next_instr.ensures ∙ ap inside_answer (mapped_ok _ c.in_ok-what.ensures.cases)) _ c.in-On.is

pub loop-p-preserved-else-used : goal.loop-p-preserved-else-used
loop-p-preserved-else-used c = search (rules, on_second)

pub loop-p-smaller-in-Data : goal.loop-p-smaller-in-Data
loop-p-smaller-in-Data c = less_data _ _ _ _ _ _ _ _ _ c.loop-p.invariant (search rules) (search rules) _ (search rules) _ (c.next_instr.ensures ∙ ap inside_answer (mapped_ok _ c.in_ok-what.ensures.cases)) c.in-Data.is

pub loop-p-preserved-in-Data : goal.loop-p-preserved-in-Data
loop-p-preserved-in-Data c = search (rules, again_data)

pub loop-p-smaller-then-used-2 : goal.loop-p-smaller-then-used-2
loop-p-smaller-then-used-2 c = less_opens _ _ _ _ _ _ _ _ _ c.loop-p.invariant (search rules) (search rules) _ (search rules) _ (c.next_instr.ensures ∙ ap inside_answer (mapped_ok _ c.in_ok-what.ensures.cases)) _ _ c.in-Opens.is

pub loop-p-preserved-then-used-2 : goal.loop-p-preserved-then-used-2
loop-p-preserved-then-used-2 c = opens-first _ _ _ _ _ _ _ _ _ c.loop-p.invariant (search rules) (search rules) _ (search rules) _ (c.next_instr.ensures ∙ ap inside_answer (mapped_ok _ c.in_ok-what.ensures.cases)) _ _ _ c.in-Opens.is c.with_block-marks.ensures (search rules)

pub loop-p-smaller-else-used-2 : goal.loop-p-smaller-else-used-2
loop-p-smaller-else-used-2 c = less_opens _ _ _ _ _ _ _ _ _ c.loop-p.invariant (search rules) (search rules) _ (search rules) _ (c.next_instr.ensures ∙ ap inside_answer (mapped_ok _ c.in_ok-what.ensures.cases)) _ _ c.in-Opens.is

pub loop-p-preserved-else-used-2 : goal.loop-p-preserved-else-used-2
loop-p-preserved-else-used-2 c = search (rules, opens-second)

pub loop-p-smaller-in-Elses : goal.loop-p-smaller-in-Elses
loop-p-smaller-in-Elses c = less_elses _ _ _ _ _ _ _ _ _ c.loop-p.invariant (search rules) (search rules) _ (search rules) _ (c.next_instr.ensures ∙ ap inside_answer (mapped_ok _ c.in_ok-what.ensures.cases)) c.in-Elses.is

pub loop-p-preserved-in-Elses : goal.loop-p-preserved-in-Elses
loop-p-preserved-in-Elses c = search (rules, again_elses)

pub loop-p-smaller-in-Ends : goal.loop-p-smaller-in-Ends
loop-p-smaller-in-Ends c = less_ends _ _ _ _ _ _ _ _ _ c.loop-p.invariant (search rules) (search rules) _ (search rules) _ (c.next_instr.ensures ∙ ap inside_answer (mapped_ok _ c.in_ok-what.ensures.cases)) c.in-Ends.is

pub loop-p-preserved-in-Ends : goal.loop-p-preserved-in-Ends
loop-p-preserved-in-Ends c = search (rules, again_ends)

pub loop-p-smaller-in-Folded : goal.loop-p-smaller-in-Folded
loop-p-smaller-in-Folded c = less_folded _ _ _ _ _ _ _ _ _ c.loop-p.invariant (search rules) (search rules) _ (search rules) _ (c.next_instr.ensures ∙ ap inside_answer (mapped_ok _ c.in_ok-what.ensures.cases)) _ _ c.in-Folded.is

pub loop-p-preserved-in-Folded : goal.loop-p-preserved-in-Folded
loop-p-preserved-in-Folded c = again_folded _ _ _ _ _ _ _ _ _ c.loop-p.invariant (search rules) (search rules) _ (search rules) _ (c.next_instr.ensures ∙ ap inside_answer (mapped_ok _ c.in_ok-what.ensures.cases)) _ _ _ _ _ c.in-Folded.is refl (search rules) (search rules)

pub put_end-requires : goal.put_end-requires
put_end-requires c = (search rules, end_fits _ _ _ _ _ _ _ _ _ c.loop-p.invariant (search rules) (search rules) _ (search rules) _ (c.next_instr.ensures ∙ ap inside_answer (mapped_ok _ c.in_ok-what.ensures.cases)) c.in-End.is (search rules), end_few _ _ _ _ _ _ _ _ _ c.loop-p.invariant (search rules) (search rules) _ (search rules) _ (c.next_instr.ensures ∙ ap inside_answer (mapped_ok _ c.in_ok-what.ensures.cases)) c.in-End.is)

pub overflow_add-ended : goal.overflow_add-ended
overflow_add-ended c = search (rules, ended-fits)

pub loop-p-smaller : goal.loop-p-smaller
loop-p-smaller c = less_end _ _ _ _ _ _ _ _ _ c.loop-p.invariant (search rules) (search rules) _ (search rules) _ (c.next_instr.ensures ∙ ap inside_answer (mapped_ok _ c.in_ok-what.ensures.cases)) c.in-End.is

pub loop-p-preserved : goal.loop-p-preserved
loop-p-preserved c = search (rules, again_end)
