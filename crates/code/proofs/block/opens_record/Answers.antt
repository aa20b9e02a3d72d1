use Rattle.code.proofs.Blocks.{openings, opens-uses, opens_unnamed, opens-untyped}
use Rattle.instr.proofs.Known.{opens-known, opens_use}
use borrow.Author.Rules.{rules}
use Rattle.code.proofs.block.opens_record.Goals as goal

pub returns-then-p-gt128 : goal.returns-then-p-gt128
returns-then-p-gt128 c = search (openings, rules) depth 12

pub known_identifier-requires : goal.known_identifier-requires
known_identifier-requires c = search (opens-known, rules)

pub known_type_use-requires : goal.known_type_use-requires
known_type_use-requires c = search (opens_use, rules)

pub opened-requires : goal.opened-requires
opened-requires c = search (opens-uses, rules)

pub returns-in-Ok-known_type_use : goal.returns-in-Ok-known_type_use
returns-in-Ok-known_type_use c = search (openings, rules) depth 12

pub returns-in-Err-known_type_use : goal.returns-in-Err-known_type_use
returns-in-Err-known_type_use c = opens-untyped _ _ c.args.p _ _ (search rules) _ _ c.in-Ok.ensures _ _ _ c.in-Err-known_type_use.ensures.0

pub returns-in-Err : goal.returns-in-Err
returns-in-Err c = opens_unnamed _ _ c.args.p _ _ (search rules) _ _ _ c.in-Err.ensures
