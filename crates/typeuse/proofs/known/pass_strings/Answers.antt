use Rattle.std.proofs.Common.{rules, refl, ap}
use Rattle.definition.specs.Reader.{many}
use Rattle.laws.specs.Steps.{stops}
use Rattle.token.proofs.Counts.{one_not}
use Rattle.token.proofs.Skips.{skip_fails, stops_read}
use Rattle.typeuse.proofs.Gets.{knows}
use Rattle.typeuse.proofs.known.pass_strings.Goals as goal

pub known_string-requires : goal.known_string-requires
known_string-requires c = search knows

pub returns-in_err-next : goal.returns-in_err-next
returns-in_err-next c =
    let stopped = one_not _ _ _ _ _ _ c.loop.invariant.passing _ (search rules) (ap stops c.in_err-next.ensures) in
    skip_fails _ _ _ stopped c.from_residual.ensures.0 c.from_residual.ensures.1

pub loop-preserved : goal.loop-preserved
unfolding many
loop-preserved c = search (knows, stops_read, refl, rules)
