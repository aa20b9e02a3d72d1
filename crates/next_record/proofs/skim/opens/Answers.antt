use Rattle.std.proofs.Common.{rules}
use Rattle.next_record.proofs.Skims.{skims}
use Rattle.next_record.proofs.skim.opens.Goals as goal

pub returns-then-p-gt128 : goal.returns-then-p-gt128
returns-then-p-gt128 c = search (rules, skims) depth 10

pub returns-in_err-a : goal.returns-in_err-a
returns-in_err-a c = search (rules, skims) depth 10

pub returns-in_err-t : goal.returns-in_err-t
returns-in_err-t c = search (rules, skims) depth 10

pub returns : goal.returns
returns c = search (rules, skims) depth 10
