-- A folded stream gives the bytes of its flat one (document 02, §4). Said once over what makes the bytes of a call.
use Rattle.std.specs.Prelude.{if◌then◌else◌}
use mathlib.Core.Path.{◌≡◌, refl, ◌∙◌, sym, ap}
use Prim.Native.Nat.{ℕ, ◌≤◌}
use mathlib.Core.Bool.{Bool, true, false}
use mathlib.Core.List.{List}
use lib.Dec.{ltb}
use lib.ListN.{length, length-map}
use borrow.Author.Tests.{le-ltb, ltb-true, ltb-false}
use native.Mathlib.Omega.{arith}
use Rattle.definition.specs.Basic.{refusal, Answer, ok, fails, same_bytes}
use Rattle.definition.specs.Syntax.{Bytes, Identifier, Rec}
use Rattle.definition.specs.Read.{read}
use Rattle.definition.specs.Assemble.{Said, refusing, say, Maker, module_in, named_module_in, say_read, longest_stream, least_work, assemble_by, assemble, assemble_names, assemble_strict, assemble_strict_names}
use Rattle.definition.specs.Assemble.{outcome, call_by, call, call_names, call_strict, call_strict_names}
use Rattle.unfolding.specs.FlatStream.{flat_order, parts_of, flat_records, flat_stream, SaysTheSame}
use Rattle.unfolding.proofs.Numbers.{Alike, same, both}
use Rattle.unfolding.proofs.SameFields.{same_module, same-named}
use Rattle.unfolding.proofs.FlatFields.{flat_fields}
use Rattle.unfolding.proofs.FlatRead.{flat_length, flat_read}
use Rattle.unfolding.proofs.FlatLaws.{flat_short, left_as_it_is}

-- ## The makers

-- what each call has to show: of the records of a stream and of the flat ones its maker makes the same
abbrev pub Unfolds : Maker → Type 0
Unfolds make = (s : Bytes) (rs : List (Rec Identifier)) → read s ≡ ok rs → (room : ℕ) → Alike (make room rs) (make room (flat_records s rs))

-- the count of records is the same
as_many : (s : Bytes) (rs : List (Rec Identifier)) → length rs ≡ length (flat_records s rs)
unfolding flat_records
as_many s rs = sym (length-map (flat_order (parts_of s rs)) (λ p. p.rec) ∙ flat_length s rs)

pub unfolds_module : (strict : Bool) → Unfolds (module_in strict same_bytes)
unfolds_module strict s rs e room = same_module rs (flat_records s rs) (flat_fields s rs e) (as_many s rs) strict same_bytes room

pub unfolds_names : (strict : Bool) → Unfolds (named_module_in strict)
unfolds_names strict s rs e room = same-named rs (flat_records s rs) (flat_fields s rs e) (as_many s rs) strict room

-- ## What a call says

says_same : (a : Said) → SaysTheSame a a
says_same a = record { number = refl; bytes = refl; accepted = λ e. refl }

-- answers that differ at most in a refusal's record
says-alike : (count : ℕ) {a b : Answer Bytes} → Alike a b → SaysTheSame (say count b) (say count a)
unfolding say
says-alike count (same a) = says_same (say count a)
says-alike count (both n r q p) = record { number = refl; bytes = refl; accepted = λ e. let l = ltb-true 0 n p in absurd (omega arith) }

-- in a work area that may be too short
says_enough : (t : Bool) {a b : Said} → SaysTheSame a b → SaysTheSame (if t then refusing (refusal 10 0) else a) (if t then refusing (refusal 10 0) else b)
says_enough true h = says_same _
says_enough false h = h

module _ (make : Maker) (unfolds : Unfolds make) (s : Bytes) (work room : ℕ) where
  -- of a stream that is not too long; of one that is, the flat stream may be short enough
  pub says_the_same : length s ≤ longest_stream → SaysTheSame (assemble_by make (flat_stream s) work room) (assemble_by make s work room)
  unfolding assemble_by say_read
  says_the_same l = go (read s) refl
    where
      go : (c : Answer (List (Rec Identifier))) → read s ≡ c → SaysTheSame (assemble_by make (flat_stream s) work room) (assemble_by make s work room)
      go (ok rs) e =
          let k = flat_short s rs e in
          rw (le-ltb longest_stream (length s) l, le-ltb longest_stream (length (flat_stream s)) (omega arith), flat_read s rs e, e, ← as_many s rs)
          (says_enough (ltb work least_work) (says-alike (length rs) (unfolds s rs e room)))
      go (fails q) e = rw (left_as_it_is s q e) (says_same (assemble_by make s work room))

  -- an accepted stream is not too long
  short : (assemble_by make s work room).number ≡ 0 → length s ≤ longest_stream
  unfolding assemble_by
  short e = go (ltb longest_stream (length s)) refl e
    where
      go : (t : Bool) → ltb longest_stream (length s) ≡ t
          → (if t then refusing (refusal 1 0) else if ltb work least_work then refusing (refusal 10 0) else say_read make room (read s)).number ≡ 0 → length s ≤ longest_stream
      go true d e = absurd (omega arith)
      go false d e = ltb-false longest_stream (length s) d

  -- of an accepted stream: the same count of records, the same bytes
  pub same-said : (assemble_by make s work room).number ≡ 0 → assemble_by make (flat_stream s) work room ≡ assemble_by make s work room
  same-said e = (says_the_same (short e)).accepted e

-- ## The calls

module _ (s : Bytes) (work room : ℕ) where
  pub assemble_flat : (assemble s work room).number ≡ 0 → assemble (flat_stream s) work room ≡ assemble s work room
  unfolding assemble
  assemble_flat = same-said (module_in false same_bytes) (unfolds_module false) s work room

  pub assemble_names_flat : (assemble_names s work room).number ≡ 0 → assemble_names (flat_stream s) work room ≡ assemble_names s work room
  unfolding assemble_names
  assemble_names_flat = same-said (named_module_in false) (unfolds_names false) s work room

  pub assemble_strict_flat : (assemble_strict s work room).number ≡ 0 → assemble_strict (flat_stream s) work room ≡ assemble_strict s work room
  unfolding assemble_strict
  assemble_strict_flat = same-said (module_in true same_bytes) (unfolds_module true) s work room

  pub assemble_strict_names_flat : (assemble_strict_names s work room).number ≡ 0 → assemble_strict_names (flat_stream s) work room ≡ assemble_strict_names s work room
  unfolding assemble_strict_names
  assemble_strict_names_flat = same-said (named_module_in true) (unfolds_names true) s work room

-- and everything that a call leaves
pub same-call : (make : Maker) → Unfolds make → (s : Bytes) (work : List ℕ) (output : Bytes)
    → (call_by make s work output).number ≡ 0 → call_by make (flat_stream s) work output ≡ call_by make s work output
unfolding call_by outcome
same-call make unfolds s work output e = ap (outcome output work) (same-said make unfolds s (length work) (length output) e)

module _ (s : Bytes) (work : List ℕ) (output : Bytes) where
  pub call_flat : (call s work output).number ≡ 0 → call (flat_stream s) work output ≡ call s work output
  unfolding call
  call_flat = same-call (module_in false same_bytes) (unfolds_module false) s work output

  pub call_names_flat : (call_names s work output).number ≡ 0 → call_names (flat_stream s) work output ≡ call_names s work output
  unfolding call_names
  call_names_flat = same-call (named_module_in false) (unfolds_names false) s work output

  pub call_strict_flat : (call_strict s work output).number ≡ 0 → call_strict (flat_stream s) work output ≡ call_strict s work output
  unfolding call_strict
  call_strict_flat = same-call (module_in true same_bytes) (unfolds_module true) s work output

  pub call_strict_names_flat : (call_strict_names s work output).number ≡ 0 → call_strict_names (flat_stream s) work output ≡ call_strict_names s work output
  unfolding call_strict_names
  call_strict_names_flat = same-call (named_module_in true) (unfolds_names true) s work output
