use Rattle.interning.proofs.Declares.{emptied_lent, emptied_indexed, emptied_ahead, emptied_count, emptied_declared}
use Rattle.interning.proofs.declared.declare_all.Goals as goal

pub declare_fields-requires : goal.declare_fields-requires
declare_fields-requires c = (search emptied_lent, search emptied_indexed, search emptied_ahead, search emptied_count)

pub returns : goal.returns
returns c = search emptied_declared
