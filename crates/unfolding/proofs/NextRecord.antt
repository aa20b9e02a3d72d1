-- The next record of a stream that is read, and its end, by the records that are left.
use mathlib.Core.Path.{◌≡◌, refl, ◌∙◌, sym, ap}
use Prim.Native.Nat.{ℕ, zero, suc, ◌+◌, ◌≤◌}
use mathlib.Core.Bool.{Bool, true, false}
use mathlib.Core.List.{List, [], ◌∷◌}
use mathlib.Core.Option.{Option, none, some}
use lib.Dec.{leb}
use lib.ListN.{length}
use borrow.Author.Tests.{leb-true, leb-false}
use native.Mathlib.Omega.{arith}
use Rattle.definition.specs.Basic.{ok}
use Rattle.definition.specs.Syntax.{Bytes, Identifier, Rec}
use Rattle.definition.specs.Reader.{got}
use Rattle.definition.specs.Instructions.{Inside}
use Rattle.definition.specs.Read.{Seen, seen_after, one_record, at_end, records}
use Rattle.laws.proofs.Reading.{records_end, records_full, accepted-next}

-- a record is left: it stands at the place, and the others after it
pub record First (left r : ℕ) (seen : Seen) (s : Bytes) (here : ℕ) (x : Rec Identifier) (rs : List (Rec Identifier)) : Type 0 where
  pub fewer : ℕ
  pub next : ℕ
  pub one : left ≡ suc fewer
  pub reads : one_record seen s here ≡ got x next
  pub goes_on : records fewer (r + 1) (seen_after seen x) s next ≡ ok rs

-- none stands at the stream's end
not_at_end : (r : ℕ) (body : Option Inside) (x : Rec Identifier) (rs : List (Rec Identifier)) → at_end r body ≡ ok (x ∷ rs) → ⊥
not_at_end r none x rs e = let z : ◌≡◌ {A = ℕ} 0 1 = cc in omega arith
not_at_end r (some i) x rs e = let z : ◌≡◌ {A = ℕ} 0 1 = cc in omega arith

pub first : (left r : ℕ) (seen : Seen) (s : Bytes) (here : ℕ) (x : Rec Identifier) (rs : List (Rec Identifier)) → records left r seen s here ≡ ok (x ∷ rs) → First left r seen s here x rs
first left r seen s here x rs e = go left (leb (length s) here) refl e
  where
    go : (left : ℕ) (t : Bool) → leb (length s) here ≡ t → records left r seen s here ≡ ok (x ∷ rs) → First left r seen s here x rs
    go left true d e = absurd (not_at_end r seen.body x rs (sym (records_end r seen s here left (leb-true _ _ d)) ∙ e))
    go zero false d e =
        let f = sym (records_full r seen s here 0 (leb-false _ _ d) refl) ∙ e in
        let z : ◌≡◌ {A = ℕ} 0 1 = cc in absurd (omega arith)
    go (suc n) false d e =
        let k = accepted-next n r seen s here (x ∷ rs) (leb-false _ _ d) e in
        let i = k.is in
        let u : k.rec ≡ x = cc in
        let v : k.rest ≡ rs = cc in
        record { fewer = n; next = k.next; one = refl; reads = k.reads ∙ ap (λ y. got y k.next) u; goes_on = rw (u, v) at k.goes_on }

-- no record is left: that is the stream's end, outside a body
pub last : (left r : ℕ) (seen : Seen) (s : Bytes) (here : ℕ) → records left r seen s here ≡ ok [] → (seen.body ≡ none) × (length s ≤ here)
last left r seen s here e = go left (leb (length s) here) refl e
  where
    closed : (body : Option Inside) → at_end r body ≡ ok [] → body ≡ none
    closed none e = refl
    closed (some i) e = let z : ◌≡◌ {A = ℕ} 0 1 = cc in absurd (omega arith)

    go : (left : ℕ) (t : Bool) → leb (length s) here ≡ t → records left r seen s here ≡ ok [] → (seen.body ≡ none) × (length s ≤ here)
    go left true d e = let l = leb-true _ _ d in (closed seen.body (sym (records_end r seen s here left l) ∙ e), l)
    go zero false d e =
        let f = sym (records_full r seen s here 0 (leb-false _ _ d) refl) ∙ e in
        let z : ◌≡◌ {A = ℕ} 0 1 = cc in absurd (omega arith)
    go (suc n) false d e =
        let k = accepted-next n r seen s here [] (leb-false _ _ d) e in
        let i = k.is in
        let z : ◌≡◌ {A = ℕ} 0 1 = cc in absurd (omega arith)
