use Rattle.definition.specs.Binary.{unsigned, u, sized}
use Rattle.definition.specs.NameSection.{section_name}
use borrow.Author.Rules.{rules}
use Rattle.name_section.proofs.section.put_title.Goals as goal

pub returns : goal.returns
unfolding sized section_name u unsigned
returns c = search rules
