use Rattle.interning.proofs.Fields.{owns, skips_own, whole-own, readable-own}
use borrow.Author.Rules.{rules}
use Rattle.interning.proofs.field.use_own.Goals as goal

pub use_func-requires : goal.use_func-requires
use_func-requires c = search (skips_own, whole-own, readable-own, rules)

pub returns-in-Func : goal.returns-in-Func
returns-in-Func c = search (owns) depth 8

pub returns-in-Table : goal.returns-in-Table
returns-in-Table c = search (owns) depth 8

pub returns-in-Mem : goal.returns-in-Mem
returns-in-Mem c = search (owns) depth 8

pub returns-in-Global : goal.returns-in-Global
returns-in-Global c = search (owns) depth 8
