use Rattle.name_section.proofs.Subsections.{length-put}
use Rattle.name_section.proofs.section.put_length.Goals as goal

pub returns : goal.returns
returns c = search length-put
