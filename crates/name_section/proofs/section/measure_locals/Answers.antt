use Rattle.name_section.proofs.Subsections.{locals-size}
use Rattle.name_section.proofs.section.measure_locals.Goals as goal

pub returns : goal.returns
returns c = search locals-size
