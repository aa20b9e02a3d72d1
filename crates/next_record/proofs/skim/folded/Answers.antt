use Rattle.std.proofs.Common.{rules}
use Rattle.next_record.proofs.Skims.{folded-refused, folded-ways}
use Rattle.next_record.proofs.skim.folded.Goals as goal

pub returns-in_err-does : goal.returns-in_err-does
returns-in_err-does c = folded-refused _ _ _ _ c.in_err-does.ensures c.from_residual.ensures.0 c.from_residual.ensures.1

pub returns : goal.returns
returns c = search (rules, folded-ways) depth 10
