use Prim.Native.Nat.{◌-◌}
use Rattle.name_table.proofs.Walk.{find-begin, find-room, find-found, find_again, find_none}
use borrow.Author.Rules.{rules}
use Rattle.name_table.proofs.table.find_name.Goals as goal

pub loop-k-init : goal.loop-k-init
loop-k-init c = search find-begin

pub carries-requires : goal.carries-requires
carries-requires c = search (find-room, rules)

pub returns-then-carries : goal.returns-then-carries
returns-then-carries c = search find-found

pub loop-k-preserved : goal.loop-k-preserved
loop-k-preserved c = search find_again

pub returns : goal.returns
returns c = search find_none
