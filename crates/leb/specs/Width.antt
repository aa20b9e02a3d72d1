-- The widths that numbers are read at.
use Rattle.std.specs.Prelude.{ℕ, ◌+◌, ◌-◌, ◌*◌, ◌^◌, ◌≤◌, ◌<◌}

-- what numbers of at most `most` groups are below, where the last group is at most `last`
abbrev pub limit : ℕ → ℕ → ℕ
limit most last = (last + 1) * 128 ^ (most - 1)

-- a width that 64 bits hold: at least one group, and in the last at least one bit and at most seven
pub record Width (most last : ℕ) : Type 0 where
  pub some : 0 < most
  pub one : 0 < last
  pub seven : last < 128
  pub fits : limit most last ≤ 2 ^ 64
