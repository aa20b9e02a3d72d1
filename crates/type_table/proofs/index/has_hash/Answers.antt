use Rattle.type_table.proofs.Indexed.{hash_differs, hash_agrees}
use Rattle.type_table.proofs.index.has_hash.Goals as goal

pub returns-then-work-at : goal.returns-then-work-at
returns-then-work-at c = search hash_differs

pub returns : goal.returns
returns c = search hash_agrees
