-- The part of a stream that a place and a length say, as a slice has it.
use mathlib.Core.Path.{◌≡◌, sym, ◌∙◌}
use mathlib.Core.List.{List, []}
use Prim.Native.Nat.{ℕ, ◌+◌, ◌-◌, ◌≤◌}
use native.Mathlib.Omega.{arith}
use lib.ListN.{length, take, drop, length-drop, drop_of_length-le}
use lib.Seq.{take_all, drop-length}
use Rattle.syntax.specs.Tokens.{part}

-- past the stream's end there is nothing
pub part_none : (s : List ℕ) (at len n : ℕ) → length s ≤ at → take n (drop (length s) s) ≡ part s at len
unfolding part
part_none s at len n h = rw (drop-length s, drop_of_length-le s h) (take_all n [] (omega arith) ∙ sym (take_all len [] (omega arith)))

-- up to the stream's end
pub part-from : (s : List ℕ) (at len : ℕ) → length s - at ≤ len → take (length s - at) (drop at s) ≡ part s at len
unfolding part
part-from s at len h =
    let e : length (drop at s) ≡ length s - at = length-drop at s in
    take_all (length s - at) (drop at s) (omega arith) ∙ sym (take_all len (drop at s) (omega arith))

-- within it
pub part-all : (s : List ℕ) (at len : ℕ) → take (at + len - at) (drop at s) ≡ part s at len
unfolding part
part-all s at len = let e : at + len - at ≡ len = omega arith in rw e

pub ruleset parts = (part_none, part-from, part-all)
