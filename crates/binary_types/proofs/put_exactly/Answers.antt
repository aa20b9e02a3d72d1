use Rattle.definition.specs.Binary as Binary
use Rattle.definition.specs.Deinline as Deinline
use borrow.Author.Rules.{rules}
use Rattle.binary_types.proofs.put_exactly.Goals as goal

pub returns : goal.returns
unfolding Binary.limits Deinline.exactly
returns c = search rules
