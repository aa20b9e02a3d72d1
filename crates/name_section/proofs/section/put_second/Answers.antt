use Rattle.name_section.proofs.Subsections.{second_none, second-put}
use Rattle.name_section.proofs.section.put_second.Goals as goal

pub returns-then-locals-eq0 : goal.returns-then-locals-eq0
returns-then-locals-eq0 c = search second_none

pub returns : goal.returns
returns c = search second-put
