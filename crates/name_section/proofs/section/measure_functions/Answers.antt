use Rattle.name_section.proofs.Subsections.{functions-size}
use Rattle.name_section.proofs.section.measure_functions.Goals as goal

pub returns : goal.returns
returns c = search functions-size
