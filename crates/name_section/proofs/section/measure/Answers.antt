use Rattle.name_section.proofs.Subsections.{both_measured}
use Rattle.name_section.proofs.section.measure.Goals as goal

pub returns : goal.returns
returns c = search both_measured
