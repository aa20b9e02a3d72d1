use Rattle.frames.proofs.Entries.{one_table, one_entry, one-taken, one-put}
use borrow.Author.Rules.{rules}
use Rattle.frames.proofs.locals.put_local.Goals as goal

pub is_taken-requires : goal.is_taken-requires
is_taken-requires c = search one_table

pub returns-then-is_taken : goal.returns-then-is_taken
returns-then-is_taken c = search one-taken

pub put_name-requires : goal.put_name-requires
put_name-requires c = search (one_entry, rules)

pub returns : goal.returns
returns c = search one-put
