use Rattle.name_table.proofs.Walk.{out_begin, out_room, out_found, out_again, out_none}
use borrow.Author.Rules.{rules}
use Rattle.name_table.proofs.label.label_depth.Goals as goal

pub loop-left-init : goal.loop-left-init
loop-left-init c = search out_begin

pub returns-then-left-eq0 : goal.returns-then-left-eq0
returns-then-left-eq0 c = search out_none

pub carries-requires : goal.carries-requires
carries-requires c = search (out_room, rules)

pub loop-left-preserved : goal.loop-left-preserved
loop-left-preserved c = search out_again

pub returns : goal.returns
returns c = search out_found
