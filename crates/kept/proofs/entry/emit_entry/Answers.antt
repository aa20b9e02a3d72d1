use Rattle.kept.proofs.Emitting.{code_use, code_body, code-head, code-emits, not_code, other-emits, ready-uses}
use borrow.Author.Rules.{rules}
use Rattle.kept.proofs.entry.emit_entry.Goals as goal

pub emit_func-requires : goal.emit_func-requires
emit_func-requires c = (search rules, search (code_use, rules), search (code_body, rules), search (code-head, rules))

pub returns-in-Code : goal.returns-in-Code
returns-in-Code c = search (code-emits, rules)

pub emit_other-requires : goal.emit_other-requires
emit_other-requires c = (search rules, search (not_code, rules), search (ready-uses, rules))

pub returns-in_default : goal.returns-in_default
returns-in_default c = search (other-emits, rules)
