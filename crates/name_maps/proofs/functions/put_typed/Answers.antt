use Rattle.name_maps.proofs.Locals.{typed_inline, typed-nameless}
use Rattle.name_maps.proofs.functions.put_typed.Goals as goal

pub returns-then-is_inline : goal.returns-then-is_inline
returns-then-is_inline c = search typed_inline

pub returns : goal.returns
returns c = search typed-nameless
