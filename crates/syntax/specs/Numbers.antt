-- What the answers of the readers mean: each as a step of the definition.
use Rattle.syntax.specs.Reads.{Read, step, same}
use Rattle.std.specs.Prelude.{ℕ, if◌then◌else◌}
use Rattle.definition.specs.Reader.{Step, got, fault}
use Rattle.definition.specs.Token.{needed}

abbrev pub u32_at : Read ℕ → Step ℕ
u32_at = step same

abbrev pub u64_at : Read ℕ → Step ℕ
u64_at = step same

-- a number that ends with the group `b`: refused by 19 where that could be left out
abbrev pub end_at : ℕ → ℕ → ℕ → ℕ → Step ℕ
end_at scale b value next = if needed scale b then got value next else fault 19
