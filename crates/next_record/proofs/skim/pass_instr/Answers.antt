use Rattle.std.proofs.Common.{rules}
use Rattle.next_record.proofs.Skims.{forms-passed}
use Rattle.next_record.proofs.skim.pass_instr.Goals as goal

pub returns-in-NoOpcode : goal.returns-in-NoOpcode
returns-in-NoOpcode c = search (rules, forms-passed) depth 10

pub returns-in-Opening : goal.returns-in-Opening
returns-in-Opening c = search (rules, forms-passed) depth 10

pub returns-in-Elsing : goal.returns-in-Elsing
returns-in-Elsing c = search (rules, forms-passed) depth 10

pub returns-in-Ending : goal.returns-in-Ending
returns-in-Ending c = search (rules, forms-passed) depth 10

pub returns-in-Calling : goal.returns-in-Calling
returns-in-Calling c = search (rules, forms-passed) depth 10

pub returns-in_err-next-in-Operands : goal.returns-in_err-next-in-Operands
returns-in_err-next-in-Operands c = search (rules, forms-passed) depth 10

pub returns-in_ok-next-in-Operands : goal.returns-in_ok-next-in-Operands
returns-in_ok-next-in-Operands c = search (rules, forms-passed) depth 10
