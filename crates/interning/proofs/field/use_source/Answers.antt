use Rattle.interning.proofs.Fields.{items, skips_source, whole-source, readable-source, readable-imported}
use borrow.Author.Rules.{rules}
use Rattle.interning.proofs.field.use_source.Goals as goal

pub use_own-requires : goal.use_own-requires
use_own-requires c = search (skips_source, whole-source, readable-source, rules)

pub use_extern-requires : goal.use_extern-requires
use_extern-requires c = search (readable-imported, rules)

pub returns-in-Own : goal.returns-in-Own
returns-in-Own c = search (items) depth 8

pub returns-in-Imported : goal.returns-in-Imported
returns-in-Imported c = search (items) depth 8

pub returns-in-TableOf : goal.returns-in-TableOf
returns-in-TableOf c = search (items) depth 8

pub returns-in-MemOf : goal.returns-in-MemOf
returns-in-MemOf c = search (items) depth 8
