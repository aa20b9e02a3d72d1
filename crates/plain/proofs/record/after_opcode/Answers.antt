use Rattle.plain.proofs.Plains.{afters}
use Rattle.plain.proofs.record.after_opcode.Goals as goal

pub returns-in-Bare : goal.returns-in-Bare
returns-in-Bare c = search afters

pub returns-in-LabelIdx : goal.returns-in-LabelIdx
returns-in-LabelIdx c = search afters

pub returns-in-LocalIdx : goal.returns-in-LocalIdx
returns-in-LocalIdx c = search afters

pub returns-in-FuncIdx : goal.returns-in-FuncIdx
returns-in-FuncIdx c = search afters

pub returns-in-GlobalIdx : goal.returns-in-GlobalIdx
returns-in-GlobalIdx c = search afters

pub returns-in_default : goal.returns-in_default
returns-in_default c = search afters
