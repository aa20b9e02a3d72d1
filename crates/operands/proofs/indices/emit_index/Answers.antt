use Rattle.operands.proofs.Turns.{few-blocks, index-func, index-label}
use borrow.Author.Rules.{rules}
use Rattle.operands.proofs.indices.emit_index.Goals as goal

pub emit_depth-requires : goal.emit_depth-requires
emit_depth-requires c = search (few-blocks, rules)

pub returns-in-Func : goal.returns-in-Func
returns-in-Func c = search index-func

pub returns-in-Label : goal.returns-in-Label
returns-in-Label c = search index-label
