use Prim.Native.Nat.{◌-◌}
use Rattle.type_table.proofs.Indexed.{free-begin, free-inside, free_less, free_again, free-done}
use borrow.Author.Rules.{rules}
use Rattle.type_table.proofs.index.free_place.Goals as goal

pub loop-h-init : goal.loop-h-init
loop-h-init c = search free-begin

pub link_at-link-requires : goal.link_at-link-requires
link_at-link-requires c = search (free-inside, rules)

pub returns-then-link-eq0 : goal.returns-then-link-eq0
returns-then-link-eq0 c = search free-done

pub loop-h-smaller : goal.loop-h-smaller
loop-h-smaller c = search free_less

pub loop-h-preserved : goal.loop-h-preserved
loop-h-preserved c = search free_again
