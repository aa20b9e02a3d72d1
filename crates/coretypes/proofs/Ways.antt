-- How `search` and `grind` follow the definition past what the readers of this crate answered.
use Rattle.syntax.proofs.Ways.{reads}

pub ruleset type-answers = (reads)
