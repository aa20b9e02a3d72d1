use Rattle.type_table.proofs.Lists.{next-left, both_told, in_step_begin, in_step_less, in_step_again, in_step_differ, in_step_end}
use Rattle.type_table.proofs.list.same_list.Goals as goal

pub loop-p-init : goal.loop-p-init
loop-p-init c = search in_step_begin

pub step-requires : goal.step-requires
step-requires c = search next-left

pub loop-p-smaller : goal.loop-p-smaller
loop-p-smaller c = search (in_step_less, both_told)

pub loop-p-preserved : goal.loop-p-preserved
loop-p-preserved c = search (in_step_again, both_told)

pub returns-in-Differ : goal.returns-in-Differ
returns-in-Differ c = search (in_step_differ, both_told)

pub returns-in-End : goal.returns-in-End
returns-in-End c = search (in_step_end, both_told)
