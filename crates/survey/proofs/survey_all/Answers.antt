use Rattle.survey.proofs.Surveying.{told-done, told-late, use_refused, use_told, name_refused, name_room, name_told}
use borrow.Author.Rules.{rules}
use Rattle.survey.proofs.survey_all.Goals as goal

pub late_first-requires : goal.late_first-requires
late_first-requires c = search (use_refused, rules)

pub types_first-requires : goal.types_first-requires
types_first-requires c = (search (name_room, rules), search (name_refused, rules))

pub returns-in-Types : goal.returns-in-Types
returns-in-Types c = search (told-done, rules)

pub returns-in-Late : goal.returns-in-Late
returns-in-Late c = search (told-late, rules)

pub returns-in-Use : goal.returns-in-Use
returns-in-Use c = search (use_told, rules)

pub returns-in-Name : goal.returns-in-Name
returns-in-Name c = search (name_told, rules)
