use Rattle.passes.proofs.Whole.{begun-ready, prepare_unread, prepare_done}
use borrow.Author.Rules.{rules}
use Rattle.passes.proofs.prepare.Goals as goal

pub find-requires : goal.find-requires
find-requires c = search (begun-ready, rules)

pub returns : goal.returns
returns c = prepare_done _ _ _ _ _ _ _ _ c.find.ensures c.in_ok-count.ensures

pub returns-in_err-count : goal.returns-in_err-count
returns-in_err-count c = prepare_unread _ _ _ _ _ _ c.in_err-count.ensures _ c.from_residual.ensures.0 c.from_residual.ensures.1
