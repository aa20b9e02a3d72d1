-- How `search` and `grind` follow the definition past what the readers of this crate and of leb answered.
use Rattle.syntax.proofs.Ways.{reads}

pub ruleset answers = (reads)
