use Rattle.module.proofs.Counting.{adding_begin, adding_again, adding_done, adding_few}
use Rattle.module.proofs.length.sections_len.Goals as goal

pub loop-k-init : goal.loop-k-init
loop-k-init c = search adding_begin

pub section_len-requires : goal.section_len-requires
section_len-requires c = search adding_few

pub loop-k-preserved : goal.loop-k-preserved
loop-k-preserved c = search adding_again

pub returns : goal.returns
returns c = search adding_done
