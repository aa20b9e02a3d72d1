use Rattle.entries.proofs.Arms.{arm_export, arm_exports, arm_start, arm_elem, arm_inline_elem, arm_data, arm_inline_data, arm_left}
use borrow.Author.Rules.{rules}
use Rattle.entries.proofs.emit_late.Goals as goal

pub returns-in-Export : goal.returns-in-Export
returns-in-Export c = search (arm_export, rules)

pub returns-in-Exports : goal.returns-in-Exports
returns-in-Exports c = search (arm_exports, rules)

pub returns-in-Start : goal.returns-in-Start
returns-in-Start c = search (arm_start, rules)

pub returns-in-Elem : goal.returns-in-Elem
returns-in-Elem c = search (arm_elem, rules)

pub returns-in-InlineElem : goal.returns-in-InlineElem
returns-in-InlineElem c = search (arm_inline_elem, rules)

pub returns-in-Data : goal.returns-in-Data
returns-in-Data c = search (arm_data, rules)

pub returns-in-InlineData : goal.returns-in-InlineData
returns-in-InlineData c = search (arm_inline_data, rules)

pub returns-in_default : goal.returns-in_default
returns-in_default c =
    let h = c.in_default in
    arm_left _ _ _ _ _ _ _ (search rules) (search rules) h.not-Export h.not-Exports h.not-Start h.not-Elem h.not-InlineElem h.not-Data h.not-InlineData
