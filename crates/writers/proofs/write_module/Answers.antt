use Rattle.writers.proofs.Writers.{write_short, write_fits, module_long}
use Rattle.writers.proofs.write_module.Goals as goal

pub returns-then-out-module_len : goal.returns-then-out-module_len
returns-then-out-module_len c = search (write_short, module_long)

pub returns : goal.returns
returns c = search (write_fits, module_long)
