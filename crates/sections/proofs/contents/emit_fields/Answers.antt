use Rattle.walk.proofs.Steps.{visit_less}
use Rattle.sections.proofs.Fields.{emitting_begin, emitting_ready, emitting_again, emitting_stop, emitting_done, emitting_long, emitting_area}
use Rattle.sections.proofs.contents.emit_fields.Goals as goal

pub loop-o-init : goal.loop-o-init
loop-o-init c = search emitting_begin

pub shape_of-work-then-end-o : goal.shape_of-work-then-end-o
shape_of-work-then-end-o c = search (emitting_long, emitting_area)

pub shape_of-out-then-end-o : goal.shape_of-out-then-end-o
shape_of-out-then-end-o c = search (emitting_long, emitting_area)

pub returns-then-end-o : goal.returns-then-end-o
returns-then-end-o c = search emitting_stop

pub emit_field-o-requires : goal.emit_field-o-requires
emit_field-o-requires c = search emitting_ready

pub loop-o-smaller : goal.loop-o-smaller
loop-o-smaller c = search visit_less

pub loop-o-preserved : goal.loop-o-preserved
loop-o-preserved c = search emitting_again

pub shape_of-work-in-None : goal.shape_of-work-in-None
shape_of-work-in-None c = search (emitting_long, emitting_area)

pub shape_of-out-in-None : goal.shape_of-out-in-None
shape_of-out-in-None c = search (emitting_long, emitting_area)

pub returns-in-None : goal.returns-in-None
returns-in-None c = search emitting_done
