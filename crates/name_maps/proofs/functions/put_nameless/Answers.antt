use Rattle.name_maps.proofs.Locals.{few-first, nameless-put}
use Rattle.name_maps.proofs.functions.put_nameless.Goals as goal

pub put_list-requires : goal.put_list-requires
put_list-requires c = search few-first

pub returns : goal.returns
returns c = search nameless-put
