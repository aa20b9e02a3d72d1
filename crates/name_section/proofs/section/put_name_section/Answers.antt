use Rattle.name_section.proofs.Subsections.{names-none, names-some}
use Rattle.name_section.proofs.section.put_name_section.Goals as goal

pub returns-then-n-eq0 : goal.returns-then-n-eq0
returns-then-n-eq0 c = search names-none

pub returns : goal.returns
returns c = search names-some
