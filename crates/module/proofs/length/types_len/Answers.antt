use Rattle.module.proofs.Counting.{no_types, some-types}
use Rattle.module.proofs.length.types_len.Goals as goal

pub returns-then-size-eq0 : goal.returns-then-size-eq0
returns-then-size-eq0 c = search no_types

pub returns : goal.returns
returns c = search some-types
