use Rattle.sections.proofs.Emitting.{emittable_is, emittable_still, two_put}
use Rattle.sections.proofs.contents.emit_item.Goals as goal

pub emit_in-a-requires : goal.emit_in-a-requires
emit_in-a-requires c = search emittable_is

pub emit_in-requires : goal.emit_in-requires
emit_in-requires c = search emittable_still

pub returns : goal.returns
returns c = search two_put
