use Rattle.code.proofs.Blocks.{calls, indirect-uses, indirect-fault, indirect-untyped}
use Rattle.instr.proofs.Known.{calling_anywhere, indirect-known, indirect_use}
use borrow.Author.Rules.{rules}
use Rattle.code.proofs.block.indirect_record.Goals as goal

pub known_optional-requires : goal.known_optional-requires
known_optional-requires c = search (calling_anywhere, indirect-known, rules)

pub known_type_use-requires : goal.known_type_use-requires
known_type_use-requires c = search (calling_anywhere, indirect_use, rules)

pub emit_indirect-e-requires : goal.emit_indirect-e-requires
emit_indirect-e-requires c = search (indirect-uses, rules)

pub returns-in-Ok-known_type_use : goal.returns-in-Ok-known_type_use
returns-in-Ok-known_type_use c = search (calls, rules) depth 12

pub returns-in-Err-known_type_use : goal.returns-in-Err-known_type_use
returns-in-Err-known_type_use c = indirect-untyped _ _ c.args.p _ _ _ c.in-Ok.ensures _ _ _ c.in-Err-known_type_use.ensures.0

pub returns-in-Err : goal.returns-in-Err
returns-in-Err c = indirect-fault _ _ c.args.p _ _ _ _ c.in-Err.ensures
