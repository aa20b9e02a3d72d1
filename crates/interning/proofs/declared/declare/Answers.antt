use Rattle.interning.proofs.Declares.{declares, room-type}
use borrow.Author.Rules.{rules}
use Rattle.interning.proofs.declared.declare.Goals as goal

pub add_declared-requires : goal.add_declared-requires
add_declared-requires c = search (room-type, rules)

pub returns-in-Type : goal.returns-in-Type
returns-in-Type c = search (declares) depth 8

pub returns-in-Import : goal.returns-in-Import
returns-in-Import c = search (declares) depth 8

pub returns-in-Item : goal.returns-in-Item
returns-in-Item c = search (declares) depth 8

pub returns-in-Export : goal.returns-in-Export
returns-in-Export c = search (declares) depth 8

pub returns-in-Start : goal.returns-in-Start
returns-in-Start c = search (declares) depth 8

pub returns-in-Elem : goal.returns-in-Elem
returns-in-Elem c = search (declares) depth 8

pub returns-in-Data : goal.returns-in-Data
returns-in-Data c = search (declares) depth 8
