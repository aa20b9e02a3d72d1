use Rattle.module.proofs.Sections.{supplied_all, module_put}
use Rattle.module.proofs.write.put_module.Goals as goal

pub put_all-requires : goal.put_all-requires
put_all-requires c = search supplied_all

pub returns : goal.returns
returns c = search module_put
