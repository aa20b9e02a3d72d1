use Rattle.definition.specs.Basic.{is_some}
use Rattle.next_record.proofs.Records.{begins-low, begins-field, begins-folded, begins_end, begins_not, begins_form}
use mathlib.Core.Path.{refl}
use Rattle.next_record.proofs.record.begins.Goals as goal

pub returns-then-b-lt1 : goal.returns-then-b-lt1
unfolding is_some
returns-then-b-lt1 c = search (begins-low, begins-field, begins-folded, begins_end, begins_not, begins_form, refl) depth 8

pub returns-then-depth-lt1 : goal.returns-then-depth-lt1
unfolding is_some
returns-then-depth-lt1 c = search (begins-low, begins-field, begins-folded, begins_end, begins_not, begins_form, refl) depth 8

pub returns-then-b-eq240 : goal.returns-then-b-eq240
unfolding is_some
returns-then-b-eq240 c = search (begins-low, begins-field, begins-folded, begins_end, begins_not, begins_form, refl) depth 8

pub returns-then-b-eq255 : goal.returns-then-b-eq255
unfolding is_some
returns-then-b-eq255 c = search (begins-low, begins-field, begins-folded, begins_end, begins_not, begins_form, refl) depth 8

pub returns-in-NoOpcode : goal.returns-in-NoOpcode
unfolding is_some
returns-in-NoOpcode c = search (begins-low, begins-field, begins-folded, begins_end, begins_not, begins_form, refl) depth 8

pub returns-in_default : goal.returns-in_default
unfolding is_some
returns-in_default c = search (begins_form, c.in_default.not-NoOpcode) depth 8
