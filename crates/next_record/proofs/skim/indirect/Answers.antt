use Rattle.std.proofs.Common.{rules}
use Rattle.next_record.proofs.Skims.{skims}
use Rattle.next_record.proofs.skim.indirect.Goals as goal

pub returns-in_err-a : goal.returns-in_err-a
returns-in_err-a c = search (rules, skims) depth 10

pub returns-in_err-next : goal.returns-in_err-next
returns-in_err-next c = search (rules, skims) depth 10

pub returns : goal.returns
returns c = search (rules, skims) depth 10
