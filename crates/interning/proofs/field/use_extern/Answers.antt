use Rattle.interning.proofs.Fields.{externs, readable_extern}
use borrow.Author.Rules.{rules}
use Rattle.interning.proofs.field.use_extern.Goals as goal

pub use_type-requires : goal.use_type-requires
use_type-requires c = search (readable_extern, rules)

pub returns-in-Func : goal.returns-in-Func
returns-in-Func c = search (externs) depth 8

pub returns-in-Table : goal.returns-in-Table
returns-in-Table c = search (externs) depth 8

pub returns-in-Mem : goal.returns-in-Mem
returns-in-Mem c = search (externs) depth 8

pub returns-in-Global : goal.returns-in-Global
returns-in-Global c = search (externs) depth 8
