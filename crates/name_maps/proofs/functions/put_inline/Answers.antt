use Rattle.name_maps.proofs.Locals.{few_zero, few_list, inline_put}
use Rattle.name_maps.proofs.functions.put_inline.Goals as goal

pub put_list-x-requires : goal.put_list-x-requires
put_list-x-requires c = search few_zero

pub put_list-requires : goal.put_list-requires
put_list-requires c = search few_list

pub returns : goal.returns
returns c = search inline_put
