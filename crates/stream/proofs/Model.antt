-- The pass, one record at a time, and that it says what the definition says.
use Rattle.std.specs.Prelude.{if◌then◌else◌}
use mathlib.Core.Path.{◌≡◌, refl, sym, ◌∙◌}
use Prim.Native.Nat.{ℕ, zero, suc, ◌+◌, ◌-◌, ◌≤◌, ◌<◌}
use mathlib.Core.Bool.{Bool, true, false}
use mathlib.Core.List.{List, [], ◌++◌}
use lib.Dec.{leb}
use lib.ListN.{length, get_or}
use borrow.Author.Tests.{lt-leb, le-leb}
use native.Mathlib.Omega.{arith}
use native.Mathlib.Nat.{not-suc-le-zero}
use Rattle.definition.specs.Basic.{refused}
use Rattle.definition.specs.Syntax.{Bytes, Identifier, Rec}
use Rattle.definition.specs.Reader.{Step, got, fault}
use Rattle.definition.specs.Read.{Seen, nothing_seen, seen_after, one_record, at_end, begins_in, before, with_record, records, read}
use Rattle.laws.specs.Steps.{total}
use Rattle.laws.proofs.Reading.{total-before}
use Rattle.stream.specs.Pass.{used_after, named_after, end_of, on_record, pass, passed}

-- ## It says what the definition says

pub pass-says : (left r : ℕ) (seen : Seen) (used named : Bool) (ends : List ℕ) (s : Bytes) (here : ℕ) → (pass left r seen used named ends s here).says ≡ total r (records left r seen s here)
unfolding pass records
pass-says zero r seen used named ends s here = refl
pass-says (suc left) r seen used named ends s here = go (leb (length s) here) (one_record seen s here) (λ x next. pass-says left (r + 1) (seen_after seen x) (used_after used x) (named_after named x) (ends ++ end_of used x next (r + 1)) s next)
  where
    go : (t : Bool) (st : Step (Rec Identifier))
        → ((x : Rec Identifier) (next : ℕ) → (pass left (r + 1) (seen_after seen x) (used_after used x) (named_after named x) (ends ++ end_of used x next (r + 1)) s next).says ≡ total (r + 1) (records left (r + 1) (seen_after seen x) s next))
        → (if t then record { says = total r (at_end r seen.body); seen = seen; ends = ends; named = named }
        else on_record (λ x next. pass left (r + 1) (seen_after seen x) (used_after used x) (named_after named x) (ends ++ end_of used x next (r + 1)) s next) (λ n. record { says = refused n r; seen = seen; ends = ends; named = named }) st).says
        ≡ total r (if t then at_end r seen.body else with_record r (λ x next. before x (records left (r + 1) (seen_after seen x) s next)) st)
    go true st f = refl
    go false (got x next) f = f x next ∙ sym (total-before r x (records left (r + 1) (seen_after seen x) s next))
    go false (fault n) f = refl

pub passed-says : (s : Bytes) → (passed s).says ≡ total 0 (read s)
unfolding passed read
passed-says s = pass-says 4096 0 nothing_seen false false [] s 0

-- ## One record at a time

module _ (r : ℕ) (seen : Seen) (used named : Bool) (ends : List ℕ) (s : Bytes) (here : ℕ) where
  -- the stream is at its end
  pub pass_end : (left : ℕ) → length s ≤ here → pass left r seen used named ends s here ≡ record { says = total r (at_end r seen.body); seen = seen; ends = ends; named = named }
  unfolding pass records
  pass_end zero h = rw (le-leb _ _ h)
  pass_end (suc n) h = rw (le-leb _ _ h)

  -- a record was refused
  pub pass-fault : (left k : ℕ) → here < length s → 0 < left → one_record seen s here ≡ fault k → pass left r seen used named ends s here ≡ record { says = refused k r; seen = seen; ends = ends; named = named }
  unfolding pass
  pass-fault zero k h g e = absurd (not-suc-le-zero g)
  pass-fault (suc n) k h g e = rw (lt-leb _ _ h, e)

  -- one too many
  pub pass_full : (left : ℕ) → here < length s → left ≡ 0
      → pass left r seen used named ends s here ≡ record { says = refused (if begins_in (get_or s here 0) seen.body then 7 else 4) r; seen = seen; ends = ends; named = named }
  unfolding pass records
  pass_full left h e = rw (e, lt-leb _ _ h)

  -- one was read
  pub pass-got : (left : ℕ) (x : Rec Identifier) (next : ℕ) → here < length s → 0 < left → one_record seen s here ≡ got x next
      → pass left r seen used named ends s here ≡ pass (left - 1) (r + 1) (seen_after seen x) (used_after used x) (named_after named x) (ends ++ end_of used x next (r + 1)) s next
  unfolding pass
  pass-got zero x next h g e = absurd (not-suc-le-zero g)
  pass-got (suc n) x next h g e = let m : (suc n - 1) ≡ n = omega arith in rw (lt-leb _ _ h, e, m)
