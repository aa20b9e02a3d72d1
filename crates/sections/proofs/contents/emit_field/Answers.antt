use Rattle.sections.proofs.Emitting.{field-first, field-second, field-third, three-put}
use Rattle.sections.proofs.contents.emit_field.Goals as goal

pub emit_in-a-requires : goal.emit_in-a-requires
emit_in-a-requires c = search field-first

pub emit_rest-requires : goal.emit_rest-requires
emit_rest-requires c = (search field-second, search field-third)

pub returns : goal.returns
returns c = search three-put
