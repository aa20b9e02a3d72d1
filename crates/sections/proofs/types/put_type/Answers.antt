use Rattle.sections.proofs.Tables.{type_put}
use Rattle.sections.proofs.types.put_type.Goals as goal

pub returns : goal.returns
returns c = search type_put
