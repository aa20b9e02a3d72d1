use Rattle.type_table.proofs.Hashes.{hash_signature}
use Rattle.type_table.proofs.index.hash_of.Goals as goal

pub returns : goal.returns
returns c = search hash_signature
