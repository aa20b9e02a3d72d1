use Rattle.survey.proofs.Surveying.{ends-ahead, ends-names, ends-types, ends-told}
use borrow.Author.Rules.{rules}
use Rattle.survey.proofs.refused.types_first.Goals as goal

pub late_first-requires : goal.late_first-requires
late_first-requires c = search (ends-ahead, ends-names, rules)

pub late_first-requires-in-Err : goal.late_first-requires-in-Err
late_first-requires-in-Err c = search (ends-ahead, ends-types, rules)

pub returns-in-Ok : goal.returns-in-Ok
returns-in-Ok c = search (ends-told, rules)

pub returns-in-Err : goal.returns-in-Err
returns-in-Err c = search (ends-told, rules)
