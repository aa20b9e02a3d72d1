use Rattle.std.proofs.Common.{rules}
use Rattle.next_record.proofs.Records.{record_field, record-ways}
use Rattle.next_record.proofs.Steps.{mapped_ok}
use Rattle.syntax.specs.Fields.{field_at}
use mathlib.Core.Path.{ap, ◌∙◌}
use Rattle.next_record.proofs.record.field_record.Goals as goal

pub returns-in_err-f : goal.returns-in_err-f
returns-in_err-f c = search (rules, record-ways) depth 10

pub returns : goal.returns
returns c = record_field _ _ _ _ _ _ _ (c.read_field.ensures ∙ ap (field_at c.args.s.now) (mapped_ok _ c.in_ok-f.ensures.cases)) c.after_record.ensures c.field_depth.ensures
