-- What an emitter does: it stores bytes from a place on, as far as there is room, and says the place after them.
use Rattle.std.specs.Prelude.{ℕ, ◌+◌, ◌<◌, ◌^◌, min, max, ◌≡◌, List, length}
use Rattle.std.proofs.lemmas.List.Edits.{sets}

-- the place n bytes after `at`: it saturates at 2 ^ 63, which no slice reaches
unfoldable pub past : ℕ → ℕ → ℕ
past at n = max at (min (at + n) (2 ^ 63))

-- Of `old` an emitter made `new`, with `bs` from `at` on, and `r` is the place after them. Where the place may have saturated
-- nothing is promised of the bytes, so that no emitter needs a bound; `short` is what is known of every slice.
pub record Put (old : List ℕ) (at : ℕ) (bs : List ℕ) (r : ℕ) (new : List ℕ) : Type 0 where
  pub place : r ≡ past at (length bs)
  pub bytes : at + length bs < 2 ^ 63 → new ≡ sets old at bs
  pub long : length new ≡ length old
  pub short : length old < 2 ^ 63
