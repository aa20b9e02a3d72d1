use Rattle.emit.proofs.Laws.{put_cons}
use Rattle.segments.proofs.elem_segment.put_form_2.Goals as goal

pub returns : goal.returns
returns c = search (put_cons) depth 12
