use Rattle.import_export.proofs.Imports.{externs, func-recalled}
use borrow.Author.Rules.{rules}
use Rattle.import_export.proofs.import.emit_extern.Goals as goal

pub emit_func_type-requires : goal.emit_func_type-requires
emit_func_type-requires c = search (func-recalled, rules)

pub returns-in-Func : goal.returns-in-Func
returns-in-Func c = search (externs) depth 12

pub returns-in-Table : goal.returns-in-Table
returns-in-Table c = search (externs) depth 12

pub returns-in-Mem : goal.returns-in-Mem
returns-in-Mem c = search (externs) depth 12

pub returns-in-Global : goal.returns-in-Global
returns-in-Global c = search (externs) depth 12
