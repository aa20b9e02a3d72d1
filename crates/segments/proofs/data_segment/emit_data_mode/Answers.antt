use Rattle.segments.proofs.Segments.{data_passive, data_active}
use Rattle.segments.proofs.data_segment.emit_data_mode.Goals as goal

pub returns-in-Passive : goal.returns-in-Passive
returns-in-Passive c = search (data_passive, data_active) depth 12

pub returns-in-Active : goal.returns-in-Active
returns-in-Active c = search (data_passive, data_active) depth 12
