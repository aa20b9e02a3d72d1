use Rattle.std.proofs.Common.{rules}
use Rattle.definition.specs.Reader.{many}
use Rattle.token.proofs.Counts.{counts}
use Rattle.token.proofs.Skips.{skip_fails}
use Rattle.typeuse.proofs.pass_many.Goals as goal

pub returns-in_err-here : goal.returns-in_err-here
unfolding many
returns-in_err-here c = search (skip_fails, counts, rules)
