-- What the exported call says and leaves.
use Rattle.std.specs.Prelude.{ℕ, ◌≡◌, List, leb, length, set, replicate, if◌then◌else◌}
use Rattle.definition.specs.Basic.{Answer, ok, fails}
use Rattle.definition.specs.Syntax.{Bytes}
use Rattle.stream.specs.Pass.{reading}

-- document 01's number and record for an answer: 0 and the count where the stream is accepted
abbrev pub number_of : Answer ℕ → ℕ
number_of (ok n) = 0
number_of (fails q) = q.number

abbrev pub record_of : Answer ℕ → ℕ
record_of (ok n) = n
record_of (fails q) = q.rec

unfoldable pub told_in : List ℕ → ℕ → ℕ → List ℕ
told_in old n r = if leb 2 (length old) then set (set old 0 n) 1 r else old

pub record Told (s : Bytes) (w a : List ℕ) (r : ℕ) (w' a' : List ℕ) : Type 0 where
  pub number : r ≡ number_of (reading s (length w))
  pub answer : a' ≡ told_in a (number_of (reading s (length w))) (record_of (reading s (length w)))
  pub leaves : w' ≡ replicate (length w) 0
