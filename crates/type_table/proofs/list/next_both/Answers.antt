use Rattle.type_table.proofs.Lists.{next-left}
use Rattle.type_table.proofs.Known.{both-known}
use Rattle.type_table.proofs.list.next_both.Goals as goal

pub step-requires : goal.step-requires
step-requires c = search next-left

pub returns : goal.returns
returns c = search both-known
