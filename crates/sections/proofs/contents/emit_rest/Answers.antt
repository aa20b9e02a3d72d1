use Rattle.sections.proofs.Emitting.{rest-second, rest-third, rest-item, rest-none}
use Rattle.sections.proofs.contents.emit_rest.Goals as goal

pub emit_item-requires : goal.emit_item-requires
emit_item-requires c = (search rest-second, search rest-third)

pub returns-in-Some : goal.returns-in-Some
returns-in-Some c = search rest-item

pub returns-in-None : goal.returns-in-None
returns-in-None c = search rest-none
