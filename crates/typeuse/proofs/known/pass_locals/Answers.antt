use Rattle.std.proofs.Common.{rules}
use Rattle.definition.specs.Reader.{many}
use Rattle.token.proofs.Counts.{counts}
use Rattle.token.proofs.Skips.{skip_fails}
use Rattle.typeuse.proofs.Gets.{knows, known_locals, local_fits, local_passed, next_local, one_known}
use Rattle.typeuse.proofs.Ways.{param_stops}
use Rattle.typeuse.proofs.known.pass_locals.Goals as goal

pub skip_identifier-requires : goal.skip_identifier-requires
skip_identifier-requires c = search (knows, known_locals)

pub overflow_add-here : goal.overflow_add-here
overflow_add-here c = local_fits _ _ _ c.in_ok-next.ensures (search (next_local, rules)) (search rules)

pub returns-in_err-next : goal.returns-in_err-next
unfolding many
returns-in_err-next c = search (skip_fails, counts, param_stops, rules)

pub loop-preserved : goal.loop-preserved
unfolding many
loop-preserved c = search (one_known, next_local, local_passed, rules)
