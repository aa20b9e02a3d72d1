use Rattle.module.proofs.Sections.{entries_reach, entries-put}
use borrow.Author.Rules.{rules}
use Rattle.module.proofs.write.put_again.Goals as goal

pub emit_fields-requires : goal.emit_fields-requires
emit_fields-requires c = search (entries_reach, rules)

pub returns : goal.returns
returns c = search entries-put
