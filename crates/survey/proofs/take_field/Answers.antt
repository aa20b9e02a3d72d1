use borrow.Author.Rules.{rules}
use Rattle.survey.proofs.Surveying.{take-stops, take_done, take-refused}
use Rattle.survey.proofs.take_field.Goals as goal

pub returns-in-Ok-register_field : goal.returns-in-Ok-register_field
returns-in-Ok-register_field c = search (take_done, rules)

pub returns-in-Err-register_field : goal.returns-in-Err-register_field
returns-in-Err-register_field c = search (take-refused, rules)

pub returns-in-Err : goal.returns-in-Err
returns-in-Err c = search (take-stops, rules)
