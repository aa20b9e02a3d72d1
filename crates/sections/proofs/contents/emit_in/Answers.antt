use Rattle.sections.proofs.Emitting.{entry_other, entry-put, entry-refused}
use Rattle.sections.proofs.contents.emit_in.Goals as goal

pub returns-then-section_of-k : goal.returns-then-section_of-k
returns-then-section_of-k c = search entry_other

pub returns-in-Ok : goal.returns-in-Ok
returns-in-Ok c = search entry-put

pub returns-in-Err : goal.returns-in-Err
returns-in-Err c = search entry-refused
