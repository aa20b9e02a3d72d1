use Rattle.resolve.proofs.Checking.{after-item, item-ready, long_after, two_then, two_not}
use borrow.Author.Rules.{rules}
use Rattle.resolve.proofs.entry.check_two.Goals as goal

pub check_entry-requires : goal.check_entry-requires
check_entry-requires c = (search rules, search (item-ready, rules))

pub check_entry-requires-2 : goal.check_entry-requires-2
check_entry-requires-2 c = (search (long_after, rules), search (after-item, rules))

pub returns : goal.returns
returns c = two_then _ _ _ _ _ _ _ _ _ c.second_of-second.ensures _ _ _ _ _ _ c.in_ok-check_entry.ensures c.third_of-third.ensures c.check_entry-2.ensures

pub returns-in_err-check_entry : goal.returns-in_err-check_entry
returns-in_err-check_entry c = search (two_not, rules)
