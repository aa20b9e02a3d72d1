use Rattle.entries.proofs.Arms.{uses_import, uses-func, late, arm_nothing, arm_import, arm_func, arm_table, arm_inline_table, arm_mem, arm_inline_mem, arm_global}
use borrow.Author.Rules.{rules}
use Rattle.entries.proofs.emit_other.Goals as goal

pub returns-in-Nothing : goal.returns-in-Nothing
returns-in-Nothing c = search (arm_nothing, rules)

pub emit_import-requires : goal.emit_import-requires
emit_import-requires c = search (uses_import, rules)

pub returns-in-Import : goal.returns-in-Import
returns-in-Import c = search (arm_import, rules)

pub emit_type_no-requires : goal.emit_type_no-requires
emit_type_no-requires c = search (uses-func, rules)

pub returns-in-Func : goal.returns-in-Func
returns-in-Func c = search (arm_func, rules)

pub returns-in-Table : goal.returns-in-Table
returns-in-Table c = search (arm_table, rules)

pub returns-in-InlineTable : goal.returns-in-InlineTable
returns-in-InlineTable c = search (arm_inline_table, rules)

pub returns-in-Mem : goal.returns-in-Mem
returns-in-Mem c = search (arm_mem, rules)

pub returns-in-InlineMem : goal.returns-in-InlineMem
returns-in-InlineMem c = search (arm_inline_mem, rules)

pub returns-in-Global : goal.returns-in-Global
returns-in-Global c = search (arm_global, rules)

pub emit_late-requires : goal.emit_late-requires
emit_late-requires c =
    let h = c.in_default in
    (search rules, search rules, late _ h.not-Nothing h.not-Import h.not-Func h.not-Table h.not-InlineTable h.not-Mem h.not-InlineMem h.not-Global)
