use Rattle.module.proofs.Sections.{after_supplied, all-put}
use borrow.Author.Rules.{rules}
use Rattle.module.proofs.write.put_all.Goals as goal

pub put_sections-requires : goal.put_sections-requires
put_sections-requires c = search (after_supplied, rules)

pub returns : goal.returns
returns c = search all-put
