use Rattle.assembler.proofs.Whole.{run-writable, run-held, run-tally, run-names, run_module, run_not}
use borrow.Author.Rules.{rules}
use Rattle.assembler.proofs.run_keeping.Goals as goal

pub write_names-requires : goal.write_names-requires
write_names-requires c = (search (run-writable, rules), search (run-held, rules), search (run-tally, rules))

pub returns-then-names : goal.returns-then-names
returns-then-names c = search (run-names, rules)

pub write_module-requires : goal.write_module-requires
write_module-requires c = (search (run-writable, rules), search (run-held, rules), search (run-tally, rules))

pub returns-else-names : goal.returns-else-names
returns-else-names c = search (run_module, rules)

pub returns-in-Err : goal.returns-in-Err
returns-in-Err c = search (run_not, rules)
