use Rattle.kept.proofs.Emitting.{section-below}
use Rattle.resolve.proofs.Checking.{entry-none, entry-fine, entry_not}
use borrow.Author.Rules.{rules}
use Rattle.resolve.proofs.entry.check_entry.Goals as goal

pub returns-then-k-eq0 : goal.returns-then-k-eq0
returns-then-k-eq0 c = search (entry-none, rules)

pub reach-requires : goal.reach-requires
reach-requires c = section-below _ _ c.section_of-k.ensures

pub returns : goal.returns
returns c = search (entry-fine, rules)

pub returns-in_err-ends : goal.returns-in_err-ends
returns-in_err-ends c = entry_not _ _ _ _ _ _ _ _ _ _ _ _ c.in_err-ends.ensures c.from_residual.ensures.0 c.from_residual.ensures.1
