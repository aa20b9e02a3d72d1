use Rattle.name_section.proofs.Subsections.{first-none, first-put}
use Rattle.name_section.proofs.section.put_first.Goals as goal

pub returns-then-functions-eq0 : goal.returns-then-functions-eq0
returns-then-functions-eq0 c = search first-none

pub returns : goal.returns
returns c = search first-put
