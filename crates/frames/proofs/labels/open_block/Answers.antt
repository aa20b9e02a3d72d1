use Rattle.frames.proofs.Blocks.{block_entry, block_opened}
use borrow.Author.Rules.{rules}
use Rattle.frames.proofs.labels.open_block.Goals as goal

pub put_name-requires : goal.put_name-requires
put_name-requires c = search (block_entry, rules)

pub returns : goal.returns
returns c = search block_opened
