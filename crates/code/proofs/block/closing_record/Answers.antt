use Rattle.code.proofs.Blocks.{closings, closing_known, closing_unnamed}
use borrow.Author.Rules.{rules}
use Rattle.code.proofs.block.closing_record.Goals as goal

pub returns-then-p-lt2 : goal.returns-then-p-lt2
returns-then-p-lt2 c = search (closings, rules) depth 12

pub known_identifier-requires : goal.known_identifier-requires
known_identifier-requires c = search (closing_known, rules)

pub returns-in-Ok : goal.returns-in-Ok
returns-in-Ok c = search (closings, rules) depth 12

pub returns-in-Err : goal.returns-in-Err
returns-in-Err c = closing_unnamed _ _ c.args.p _ _ _ (search rules) _ _ _ c.in-Err.ensures
