use Rattle.definition.specs.Deinline as Deinline
use borrow.Author.Rules.{rules}
use Rattle.binary_types.proofs.pages.Goals as goal

pub returns : goal.returns
unfolding Deinline.pages
returns c = search rules
