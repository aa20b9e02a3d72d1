-- A call that says 0 has read its stream and made the bytes that it writes.
use Rattle.std.specs.Prelude.{if◌then◌else◌}
use mathlib.Core.Path.{◌≡◌, refl}
use Prim.Native.Nat.{ℕ}
use mathlib.Core.Bool.{Bool, true, false}
use mathlib.Core.List.{List}
use lib.Dec.{ltb}
use lib.ListN.{length}
use native.Mathlib.Omega.{arith}
use Rattle.definition.specs.Basic.{refusal, Answer, ok, fails}
use Rattle.definition.specs.Syntax.{Bytes, Identifier, Rec}
use Rattle.definition.specs.Read.{read}
use Rattle.definition.specs.Assemble.{Said, refusing, say, Maker, say_read, longest_stream, least_work, assemble_by}
use Rattle.in_range.proofs.RefusalNumbers.{Positive, read_refusals}

pub record Accepted (make : Maker) (s : Bytes) (room : ℕ) (a : Said) : Type 0 where
  pub records : List (Rec Identifier)
  pub reads : read s ≡ ok records
  pub makes : make room records ≡ ok a.bytes

module _ (make : Maker) (room : ℕ) (numbers : (rs : List (Rec Identifier)) → Positive (make room rs)) (s : Bytes) where
  said : (rs : List (Rec Identifier)) → read s ≡ ok rs → (count : ℕ) (a : Answer Bytes) → make room rs ≡ a
      → (say count a).number ≡ 0 → Accepted make s room (say count a)
  unfolding say
  said rs e count (ok bs) d n = record { records = rs; reads = e; makes = d }
  said rs e count (fails q) d n = let h = (numbers rs).number q d in absurd (omega arith)

  pub accepted : (work : ℕ) → (assemble_by make s work room).number ≡ 0 → Accepted make s room (assemble_by make s work room)
  unfolding assemble_by say_read
  accepted work n = go (ltb longest_stream (length s)) (ltb work least_work) (read s) refl n
    where
      said_by_lem : Bool → Bool → Answer (List (Rec Identifier)) → Said
      said_by_lem x y c = if x then refusing (refusal 1 0) else if y then refusing (refusal 10 0) else say_read make room c

      go : (x y : Bool) (c : Answer (List (Rec Identifier))) → read s ≡ c → (said_by_lem x y c).number ≡ 0 → Accepted make s room (said_by_lem x y c)
      go true y c e n = absurd (omega arith)
      go false true c e n = absurd (omega arith)
      go false false (ok rs) e n = said rs e (length rs) (make room rs) refl n
      go false false (fails q) e n = let h = (read_refusals s).number q e in absurd (omega arith)
