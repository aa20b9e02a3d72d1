use Rattle.module.proofs.Sections.{types-none, types-put}
use Rattle.module.proofs.write.put_type_section.Goals as goal

pub returns-then-size-eq0 : goal.returns-then-size-eq0
returns-then-size-eq0 c = search types-none

pub returns : goal.returns
returns c = search types-put
