use Rattle.next_record.proofs.Steps.{field-deep, source-deep, own-deep, own_flat, source_flat, field_flat}
use mathlib.Core.Path.{refl}
use Rattle.next_record.proofs.record.field_depth.Goals as goal

pub returns-in-Func : goal.returns-in-Func
returns-in-Func c = search (field-deep, source-deep, own-deep, refl) depth 8

pub returns-in_default-o : goal.returns-in_default-o
returns-in_default-o c = field-deep 0 _ _ c.in-Item.is (source-deep 0 _ _ c.in-Own.is (own_flat _ c.in_default-o.not-Func))

pub returns-in_default-source : goal.returns-in_default-source
returns-in_default-source c = field-deep 0 _ _ c.in-Item.is (source_flat _ c.in_default-source.not-Own)

pub returns-in_default : goal.returns-in_default
returns-in_default c = field_flat _ c.in_default.not-Item
