use Rattle.name_table.proofs.Walk.{Outward}
use Rattle.name_table.proofs.label.label_depth.Given as goal

abbrev pub invariant-loop-left : goal.invariant-loop-left
invariant-loop-left l = Outward l.s l.work l.base l.blocks l.name l.left l.passed

abbrev pub decreases-loop-left : goal.decreases-loop-left
decreases-loop-left l = l.left
