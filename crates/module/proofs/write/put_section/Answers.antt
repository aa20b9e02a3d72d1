use Rattle.module.proofs.Sections.{size_is, counts_are, section-none, section-some}
use borrow.Author.Rules.{rules}
use Rattle.module.proofs.write.put_section.Goals as goal

pub returns-then-count-eq0 : goal.returns-then-count-eq0
returns-then-count-eq0 c = search section-none

pub put_content-requires : goal.put_content-requires
put_content-requires c = search (size_is, counts_are, rules)

pub returns : goal.returns
returns c = search section-some
