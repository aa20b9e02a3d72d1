use Rattle.name_section.proofs.Subsections.{len_none, len_some}
use Rattle.name_section.proofs.section.section_len.Goals as goal

pub returns-then-n-eq0 : goal.returns-then-n-eq0
returns-then-n-eq0 c = search len_none

pub returns : goal.returns
returns c = search len_some
