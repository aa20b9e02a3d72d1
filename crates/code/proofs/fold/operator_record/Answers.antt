use Rattle.code.proofs.Folds.{operators, operator_calling_uses, operator_calling_gets, operator-plain_gets}
use borrow.Author.Rules.{rules}
use Rattle.code.proofs.fold.operator_record.Goals as goal

pub indirect_record-requires : goal.indirect_record-requires
indirect_record-requires c = search (operator_calling_uses, operator_calling_gets, rules)

pub plain_record-requires : goal.plain_record-requires
plain_record-requires c = search (operator-plain_gets, rules)

pub returns-in-Calling : goal.returns-in-Calling
returns-in-Calling c = search (operators, rules) depth 12

pub returns-in-Operands : goal.returns-in-Operands
returns-in-Operands c = search (operators, rules) depth 12

pub returns-in_default : goal.returns-in_default
returns-in_default c = search (operators, rules) depth 12
