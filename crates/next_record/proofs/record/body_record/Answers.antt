use Rattle.std.proofs.Common.{rules}
use Rattle.next_record.proofs.Skims.{body_end, body-ways}
use Rattle.next_record.proofs.Steps.{mapped_ok}
use Rattle.syntax.specs.Tokens.{byte_at}
use mathlib.Core.Path.{ap, ◌∙◌}
use Rattle.next_record.proofs.record.body_record.Goals as goal

pub returns-in_err-b : goal.returns-in_err-b
returns-in_err-b c = search (rules, body-ways) depth 10

pub returns-then-b : goal.returns-then-b
returns-then-b c = search (rules, body-ways) depth 10

pub returns-then-b-2 : goal.returns-then-b-2
returns-then-b-2 c = search (rules, body-ways) depth 10

pub returns-then-p-gt1 : goal.returns-then-p-gt1
returns-then-p-gt1 c = search (rules, body-ways) depth 10

pub returns : goal.returns
returns c = body_end _ _ _ _ _ (c.read_byte.ensures ∙ ap byte_at (mapped_ok _ c.in_ok-b.ensures.cases)) _ (search rules) (search rules) (search rules) c.after_record.ensures
