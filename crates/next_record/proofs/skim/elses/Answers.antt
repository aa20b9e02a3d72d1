use Rattle.std.proofs.Common.{rules}
use Rattle.next_record.proofs.Skims.{skims}
use Rattle.next_record.proofs.skim.elses.Goals as goal

pub returns-then-not-may_else : goal.returns-then-not-may_else
returns-then-not-may_else c = search (rules, skims) depth 10

pub returns-in_err-next : goal.returns-in_err-next
returns-in_err-next c = search (rules, skims) depth 10

pub returns : goal.returns
returns c = search (rules, skims) depth 10
