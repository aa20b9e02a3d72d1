use Rattle.operands.proofs.Turns.{few-func, funcs_are}
use borrow.Author.Rules.{rules}
use Rattle.operands.proofs.indices.emit_funcs.Goals as goal

pub emit_list-requires : goal.emit_list-requires
emit_list-requires c = search (few-func, rules)

pub returns : goal.returns
returns c = search funcs_are
