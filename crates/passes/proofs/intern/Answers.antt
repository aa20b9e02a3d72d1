use Rattle.passes.proofs.Whole.{declared-lent, declared-ahead, interns_on}
use borrow.Author.Rules.{rules}
use Rattle.passes.proofs.intern.Goals as goal

pub survey_all-requires : goal.survey_all-requires
survey_all-requires c = (search declared-lent, search rules, search declared-ahead, search rules)

pub returns : goal.returns
returns c = search interns_on
