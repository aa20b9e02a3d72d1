-- What is said of the bytes that a writer is to put, and what it does.
use Rattle.std.specs.Prelude.{ℕ, ◌≡◌, List, length}
use Rattle.definition.specs.Syntax.{Bytes}
use Rattle.definition.specs.Assemble as Assemble
use Rattle.definition.specs.Assemble.{fitting, say, output_after}
use Rattle.writers.specs.declared.Said.{Said}

-- number, record, where the name was first used, written length, and the output after the call
pub record Told : Type 0 where
  pub number : ℕ
  pub rec : ℕ
  pub first : ℕ
  pub written : ℕ
  pub output : Bytes

unfoldable pub heard : Bytes → Assemble.Said → Told
heard old a = record { number = a.number; rec = a.rec; first = a.first; written = length a.bytes; output = output_after old a }

abbrev pub told : Said → Bytes → Told
told r new = record { number = r.number; rec = r.rec; first = r.first; written = r.len; output = new }

-- the bytes do not fit
abbrev pub no_room : ℕ → Said
no_room count = record { number = 18; rec = count; first = count; len = 0 }

-- a writer puts these bytes, where they fit, and keeps the work area's length
pub record Does (count : ℕ) (bs : Bytes) (w old : List ℕ) (r : Said) (w' new : List ℕ) : Type 0 where
  pub says : told r new ≡ heard old (say count (fitting (length old) count bs))
  pub long : length w' ≡ length w
