use Rattle.type_table.proofs.Types.{interns, use_fresh}
use borrow.Author.Rules.{rules}
use Rattle.type_table.proofs.table.add_use.Goals as goal

pub returns-then-count-ge256 : goal.returns-then-count-ge256
returns-then-count-ge256 c = search (interns) depth 8

pub add_type-requires : goal.add_type-requires
add_type-requires c = search (use_fresh, rules)

pub returns : goal.returns
returns c = search (interns) depth 8
