use borrow.Author.Rules.{rules}
use Rattle.type_table.proofs.Indexed.{tree_words_lem}
use Rattle.type_table.proofs.Trees.{free_in, free-fits}
use Rattle.type_table.proofs.index.put_link.Goals as goal

pub offset_bounds-work-place : goal.offset_bounds-work-place
offset_bounds-work-place c = search free-fits

pub bounds-work-place : goal.bounds-work-place
bounds-work-place c = search (free_in, rules)

pub returns : goal.returns
returns c = search tree_words_lem
