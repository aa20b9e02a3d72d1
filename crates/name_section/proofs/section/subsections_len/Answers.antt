use Rattle.name_section.proofs.Subsections.{both_len}
use Rattle.name_section.proofs.section.subsections_len.Goals as goal

pub returns : goal.returns
returns c = search both_len
