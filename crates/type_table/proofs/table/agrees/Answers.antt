use Rattle.type_table.proofs.Types.{numbers}
use Rattle.type_table.proofs.table.agrees.Goals as goal

pub returns-then-total-n : goal.returns-then-total-n
returns-then-total-n c = search (numbers) depth 8

pub returns-then-same_type : goal.returns-then-same_type
returns-then-same_type c = search (numbers) depth 8

pub returns : goal.returns
returns c = search (numbers) depth 8
