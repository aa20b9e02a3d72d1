use Rattle.std.proofs.Common.{rules}
use Rattle.next_record.proofs.Skims.{skims}
use Rattle.next_record.proofs.skim.ends.Goals as goal

pub returns-then-p-lt2 : goal.returns-then-p-lt2
returns-then-p-lt2 c = search (rules, skims) depth 10

pub returns-in_err-next : goal.returns-in_err-next
returns-in_err-next c = search (rules, skims) depth 10

pub returns : goal.returns
returns c = search (rules, skims) depth 10
