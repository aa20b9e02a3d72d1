use Rattle.module.proofs.Counting.{adding_few}
use Rattle.module.proofs.Sections.{sections-begin, sections_again, sections-done, sections-long, sections-area}
use Rattle.module.proofs.write.put_sections.Goals as goal

pub loop-k-init : goal.loop-k-init
loop-k-init c = search sections-begin

pub put_section-o-requires : goal.put_section-o-requires
put_section-o-requires c = search adding_few

pub loop-k-preserved : goal.loop-k-preserved
loop-k-preserved c = search sections_again

pub shape_of-work : goal.shape_of-work
shape_of-work c = search (sections-long, sections-area)

pub shape_of-out : goal.shape_of-out
shape_of-out c = search (sections-long, sections-area)

pub returns : goal.returns
returns c = search sections-done
