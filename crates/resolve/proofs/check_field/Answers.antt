use Rattle.resolve.proofs.Checking.{long_after, field-first, field-second, field-third, field_then, field_not}
use borrow.Author.Rules.{rules}
use Rattle.resolve.proofs.check_field.Goals as goal

pub check_entry-requires : goal.check_entry-requires
check_entry-requires c = (search rules, search (field-first, rules))

pub check_rest-requires : goal.check_rest-requires
check_rest-requires c = (search (long_after, rules), search (field-second, rules), search (field-third, rules))

pub returns : goal.returns
returns c = field_then _ _ _ _ _ _ _ _ _ _ _ c.first_of-first.ensures _ _ _ _ c.in_ok-check_entry.ensures c.check_rest.ensures

pub returns-in_err-check_entry : goal.returns-in_err-check_entry
returns-in_err-check_entry c = search (field_not, rules)
