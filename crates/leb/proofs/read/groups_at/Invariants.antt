use Rattle.std.proofs.Common.{◌+◌, ◌-◌}
use Rattle.leb.proofs.Reading.{Still}
use Rattle.leb.proofs.read.groups_at.Given as goal

-- what is still to be read gives what was to be read
abbrev pub invariant-loop : goal.invariant-loop
invariant-loop l = Still l.s l.at l.most l.last (l.most + 1 - l.counter) l.scale l.value l.here
