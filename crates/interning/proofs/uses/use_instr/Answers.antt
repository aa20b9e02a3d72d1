use Rattle.interning.proofs.Takes.{instrs}
use Rattle.instr.proofs.Known.{opens-readable, indirect-readable}
use borrow.Author.Rules.{rules}
use Rattle.interning.proofs.uses.use_instr.Goals as goal

pub use_block-requires : goal.use_block-requires
use_block-requires c = search (opens-readable, rules)

pub use_type-requires : goal.use_type-requires
use_type-requires c = search (indirect-readable, rules)

pub returns-in-Opens : goal.returns-in-Opens
returns-in-Opens c = search (instrs) depth 8

pub returns-in-Elses : goal.returns-in-Elses
returns-in-Elses c = search (instrs) depth 8

pub returns-in-Ends : goal.returns-in-Ends
returns-in-Ends c = search (instrs) depth 8

pub returns-in-Indirect : goal.returns-in-Indirect
returns-in-Indirect c = search (instrs) depth 8

pub returns-in-Plain : goal.returns-in-Plain
returns-in-Plain c = search (instrs) depth 8
