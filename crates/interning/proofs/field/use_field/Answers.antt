use Rattle.interning.proofs.Fields.{records, skips_field, whole-field, readable-item, readable_import}
use borrow.Author.Rules.{rules}
use Rattle.interning.proofs.field.use_field.Goals as goal

pub use_extern-requires : goal.use_extern-requires
use_extern-requires c = search (readable_import, rules)

pub use_source-requires : goal.use_source-requires
use_source-requires c = search (skips_field, whole-field, readable-item, rules)

pub returns-in-Type : goal.returns-in-Type
returns-in-Type c = search (records) depth 8

pub returns-in-Import : goal.returns-in-Import
returns-in-Import c = search (records) depth 8

pub returns-in-Item : goal.returns-in-Item
returns-in-Item c = search (records) depth 8

pub returns-in-Export : goal.returns-in-Export
returns-in-Export c = search (records) depth 8

pub returns-in-Start : goal.returns-in-Start
returns-in-Start c = search (records) depth 8

pub returns-in-Elem : goal.returns-in-Elem
returns-in-Elem c = search (records) depth 8

pub returns-in-Data : goal.returns-in-Data
returns-in-Data c = search (records) depth 8
