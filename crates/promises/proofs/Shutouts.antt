-- What the promise shuts out, by document 01's samples S1 and S7: where there is room, a call has one answer on their streams, to the last byte.
use Rattle.std.specs.Prelude.{if◌then◌else◌}
use Prim.Native.Nat.{ℕ, ◌≤◌, ◌<◌}
use mathlib.Core.Path.{◌≡◌, refl, ◌∙◌, ap}
use mathlib.Core.List.{List, [], ◌∷◌, ◌++◌}
use lib.Dec.{leb, ltb}
use lib.ListN.{length, drop}
use borrow.Author.Tests.{le-ltb, le-leb}
use native.Mathlib.Omega.{arith}
use Rattle.definition.specs.Assemble.{least_work}
use Rattle.definition.specs.Basic.{refusal, ok, refused}
use Rattle.definition.specs.Syntax.{Bytes}
use Rattle.definition.specs.Assemble as Assemble
use Rattle.definition.specs.Assemble.{refusing, say, assemble, output_after, outcome, call_by, call}
use Rattle.renaming.proofs.Examples.{computing, S7}
use Rattle.assembler.specs.Run.{Assembles}
use Rattle.writers.specs.declared.Said.{Said}

-- ## The samples, by the definition

abbrev pub s1_module : Bytes
s1_module = 0x00 ∷ 0x61 ∷ 0x73 ∷ 0x6D ∷ 0x01 ∷ 0x00 ∷ 0x00 ∷ 0x00 ∷ []

abbrev pub s7_module : Bytes
s7_module =
    s1_module
    ++ (0x01 ∷ 0x06 ∷ 0x01 ∷ 0x60 ∷ 0x01 ∷ 0x7F ∷ 0x01 ∷ 0x7F ∷ 0x03 ∷ 0x02 ∷ 0x01 ∷ 0x00 ∷ 0x07 ∷ 0x05 ∷ 0x01 ∷ 0x01 ∷ 0x66 ∷ 0x00 ∷ 0x00
    ∷ 0x0A ∷ 0x06 ∷ 0x01 ∷ 0x04 ∷ 0x00 ∷ 0x20 ∷ 0x00 ∷ 0x0B ∷ [])

-- two types of the same name
abbrev pub twice : Bytes
twice = 0x01 ∷ 0x01 ∷ 0x61 ∷ 0x00 ∷ 0x00 ∷ 0x01 ∷ 0x01 ∷ 0x61 ∷ 0x00 ∷ 0x00 ∷ []

-- with room for its bytes a module is written
fits : (count : ℕ) (bs : Bytes) (work room : ℕ) → least_work ≤ work → length bs ≤ room
    → (if ltb work least_work then refusing (refusal 10 0) else say count (if leb (length bs) room then ok bs else refused 18 count))
    ≡ record { number = 0; rec = count; first = count; bytes = bs }
unfolding say
fits count bs work room h b = rw (le-ltb work least_work h, le-leb (length bs) room b) refl

module _ (work room : ℕ) (h : least_work ≤ work) where
  s1_said : 8 ≤ room → assemble [] work room ≡ record { number = 0; rec = 0; first = 0; bytes = s1_module }
  unfolding computing
  s1_said b = fits 0 s1_module work room h b

  s7_said : 35 ≤ room → assemble (S7 0x78) work room ≡ record { number = 0; rec = 3; first = 3; bytes = s7_module }
  unfolding computing
  s7_said b = fits 3 s7_module work room h b

  -- with y for the second x there is no such identifier
  s7_slip_said : assemble (S7 0x79) work room ≡ refusing (refusal 14 1)
  unfolding computing
  s7_slip_said = rw (le-ltb work least_work h) refl

  -- a name that comes twice: at record 1, and first at record 0
  twice-said : assemble twice work room ≡ refusing (record { number = 13; rec = 1; first = 0 })
  unfolding computing
  twice-said = rw (le-ltb work least_work h) refl

-- ## The answers

module _ (work : List ℕ) (h : least_work ≤ length work) (old : Bytes) (r : Said) (out w : List ℕ) where
  -- what is said decides the answer
  answer : (s : Bytes) (a : Assemble.Said) → assemble s (length work) (length old) ≡ a → Assembles s work old r out w
      → (r ≡ record { number = a.number; rec = a.rec; first = a.first; len = length a.bytes }) × (out ≡ a.bytes ++ drop (length a.bytes) old)
  unfolding call call_by assemble outcome output_after
  answer s a e k =
      let x = k ∙ ap (outcome old work) e in
      (λ i. record { number = (x i).number; rec = (x i).rec; first = (x i).first; len = (x i).written }, λ i. (x i).output)

  pub s1_answer : 8 ≤ length old → Assembles [] work old r out w → (r ≡ record { number = 0; rec = 0; first = 0; len = 8 }) × (out ≡ s1_module ++ drop 8 old)
  s1_answer b k = answer [] _ (s1_said (length work) (length old) h b) k

  pub s7_answer : 35 ≤ length old → Assembles (S7 0x78) work old r out w → (r ≡ record { number = 0; rec = 3; first = 3; len = 35 }) × (out ≡ s7_module ++ drop 35 old)
  s7_answer b k = answer (S7 0x78) _ (s7_said (length work) (length old) h b) k

  pub s7_slip_answer : Assembles (S7 0x79) work old r out w → (r ≡ record { number = 14; rec = 1; first = 1; len = 0 }) × (out ≡ old)
  s7_slip_answer k = answer (S7 0x79) _ (s7_slip_said (length work) (length old) h) k

  pub twice-answer : Assembles twice work old r out w → (r ≡ record { number = 13; rec = 1; first = 0; len = 0 }) × (out ≡ old)
  twice-answer k = answer twice _ (twice-said (length work) (length old) h) k

  -- ## Programs that do not keep the promise

  -- one that refuses everything
  pub not_all_refused : 8 ≤ length old → Assembles [] work old r out w → 0 < r.number → ⊥
  not_all_refused b k n = let e : r.number ≡ 0 = ap (λ x. x.number) (s1_answer b k).0 in omega (arith, e)

  -- one that writes nothing and says 0
  pub not_nothing_written : 8 ≤ length old → Assembles [] work old r out w → r.len ≡ 0 → ⊥
  not_nothing_written b k n = let e : r.len ≡ 8 = ap (λ x. x.len) (s1_answer b k).0 in omega (arith, e)

  -- one that always writes the empty module
  pub not_always_empty : 35 ≤ length old → Assembles (S7 0x78) work old r out w → r.len ≡ 8 → ⊥
  not_always_empty b k n = let e : r.len ≡ 35 = ap (λ x. x.len) (s7_answer b k).0 in omega (arith, e)

  -- one that accepts everything
  pub not_all_accepted : Assembles (S7 0x79) work old r out w → r.number ≡ 0 → ⊥
  not_all_accepted k n = let e : r.number ≡ 14 = ap (λ x. x.number) (s7_slip_answer k).0 in omega (arith, e)

  -- one with an invented length
  pub not_invented_length : 35 ≤ length old → Assembles (S7 0x78) work old r out w → (r.len ≡ 35 → ⊥) → ⊥
  not_invented_length b k n = n (ap (λ x. x.len) (s7_answer b k).0)

  -- one with an invented record: where it accepts the count of records, where it refuses that of the fault
  pub not_invented_record : 35 ≤ length old → Assembles (S7 0x78) work old r out w → (r.rec ≡ 3 → ⊥) → ⊥
  not_invented_record b k n = n (ap (λ x. x.rec) (s7_answer b k).0)

  pub not_invented_place : Assembles (S7 0x79) work old r out w → (r.rec ≡ 1 → ⊥) → ⊥
  not_invented_place k n = n (ap (λ x. x.rec) (s7_slip_answer k).0)

  -- one that tells the later record as the first
  pub not_later_first : Assembles twice work old r out w → r.first ≡ r.rec → ⊥
  not_later_first k n =
      let e : r.first ≡ 0 = ap (λ x. x.first) (twice-answer k).0 in
      let d : r.rec ≡ 1 = ap (λ x. x.rec) (twice-answer k).0 in
      omega (arith, e, d, n)
