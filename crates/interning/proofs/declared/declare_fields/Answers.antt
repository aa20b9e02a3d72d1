use Rattle.walk.proofs.Steps.{visit_less}
use Rattle.interning.proofs.Declares.{declaring_begin, declaring_found, declaring_done, declaring_again, has_room}
use borrow.Author.Rules.{rules}
use Rattle.interning.proofs.declared.declare_fields.Goals as goal

pub loop-count-init : goal.loop-count-init
loop-count-init c = search declaring_begin

pub declare-count-requires : goal.declare-count-requires
declare-count-requires c = search (has_room, rules)

pub loop-count-smaller : goal.loop-count-smaller
loop-count-smaller c = search visit_less

pub loop-count-preserved : goal.loop-count-preserved
loop-count-preserved c = search declaring_again

pub returns-in-None : goal.returns-in-None
returns-in-None c = search declaring_done

pub returns : goal.returns
returns c = search (declaring_found, rules)
