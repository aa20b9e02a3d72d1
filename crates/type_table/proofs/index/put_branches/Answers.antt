use Rattle.type_table.specs.Table.{bare_words}
use borrow.Author.Rules.{rules}
use Rattle.type_table.proofs.index.put_branches.Goals as goal

pub returns : goal.returns
unfolding bare_words
returns c = search rules
