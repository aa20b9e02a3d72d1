use Rattle.definition.specs.Binary.{preamble}
use borrow.Author.Rules.{rules}
use Rattle.module.proofs.write.put_preamble.Goals as goal

pub returns : goal.returns
unfolding preamble
returns c = search rules
