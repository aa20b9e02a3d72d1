use Rattle.emit.proofs.Laws.{put_cons}
use Rattle.definition.specs.Binary as Binary
use Rattle.binary_types.proofs.put_inline_table.Goals as goal

pub returns : goal.returns
unfolding Binary.table_type
returns c = search put_cons
