use Rattle.code.proofs.Places.{in_place, in_within}
use Rattle.code.proofs.Bodies.{forms, folding-resolvable, opening_uses, calling_uses, calling_gets, opening_gets, elsing_gets, ending_gets, plain_gets}
use borrow.Author.Rules.{rules}
use Rattle.code.proofs.body.one_record.Goals as goal

pub emit_operands-requires : goal.emit_operands-requires
emit_operands-requires c =
    (search rules, search rules, search (in_within, rules), folding-resolvable _ _ _ _ _ c.requires.3 c.requires.2.low _ _ c.in-Ok.ensures c.if-b.true)

pub returns-then-b : goal.returns-then-b
returns-then-b c = search (forms, rules) depth 12

pub returns-in-NoOpcode : goal.returns-in-NoOpcode
returns-in-NoOpcode c = search (forms, rules) depth 12

pub opens_record-requires : goal.opens_record-requires
opens_record-requires c = search (opening_uses, opening_gets, in_place, rules)

pub returns-in-Opening : goal.returns-in-Opening
returns-in-Opening c = search (forms, rules) depth 12

pub closing_record-requires : goal.closing_record-requires
closing_record-requires c = search (elsing_gets, in_place, rules)

pub returns-in-Elsing : goal.returns-in-Elsing
returns-in-Elsing c = search (forms, rules) depth 12

pub closing_record-requires-in-Ending : goal.closing_record-requires-in-Ending
closing_record-requires-in-Ending c = search (ending_gets, in_place, rules)

pub returns-in-Ending : goal.returns-in-Ending
returns-in-Ending c = search (forms, rules) depth 12

pub indirect_record-requires : goal.indirect_record-requires
indirect_record-requires c = search (calling_uses, calling_gets, in_place, rules)

pub returns-in-Calling : goal.returns-in-Calling
returns-in-Calling c = search (forms, rules) depth 12

pub plain_record-requires : goal.plain_record-requires
plain_record-requires c = search (plain_gets, in_place, rules)

pub returns-in-Operands : goal.returns-in-Operands
returns-in-Operands c = search (forms, rules) depth 12

pub returns-in-Err : goal.returns-in-Err
returns-in-Err c = search (forms, rules) depth 12
