-- The loop of `copy`: `i` bytes are stored, and at its end all that have room.
use Prim.Native.Nat.{ℕ, ◌+◌, ◌-◌, ◌*◌, ◌^◌, ◌≤◌, ◌<◌, min}
use mathlib.Core.Path.{◌≡◌, refl, sym, ◌∙◌, ap}
use mathlib.Core.List.{List}
use lib.ListN.{length, get_or, set, take, drop, take-append-drop, length-set}
use lib.Seq.{sets, take-suc, take_all, length-sets, length-take-le}
use native.Mathlib.Decide.{dec_le}
use native.Mathlib.Numerals.{add-one}
use native.Mathlib.Omega.{arith}
use Rattle.emit.specs.Put.{Put, past}
use Rattle.laws.proofs.Sets.{sets-append}
use Rattle.emit.proofs.Laws.{sets_out}

-- of the bytes `bs`, `i` are stored
pub record Stored (out₀ : List ℕ) (at : ℕ) (bs out : List ℕ) (i : ℕ) : Type 0 where
  pub within : i ≤ min (length bs) (length out₀ - at)
  pub long : length out ≡ length out₀
  pub same : out ≡ sets out₀ at (take i bs)

-- none yet
pub begin : (out : List ℕ) (at : ℕ) (bs : List ℕ) → Stored out at bs out 0
begin out at bs = record { within = omega arith; long = refl; same = refl }

module _ {out₀ bs out : List ℕ} {at i : ℕ} (v : Stored out₀ at bs out i) where
  taken : length (take i bs) ≡ i
  taken = length-take-le i bs (omega (arith, v.within))

  module _ {fits : ℕ} (f : fits ≡ min (length bs) (length out₀ - at)) where
    -- one byte more
    pub again : i < fits → Stored out₀ at bs (set out (at + i) (get_or bs i 0)) (i + 1)
    again h = record {
      within = omega arith;
      long = length-set out (at + i) (get_or bs i 0) ∙ v.long;
      same = rw (add-one, take-suc bs i 0 (omega arith), sets-append, taken, ← v.same) refl;
    }

    -- where not all of them were stored, the rest has no room
    stored : fits ≤ i → Dec (length bs ≤ i) → out ≡ sets out₀ at bs
    stored h (yes a) = let e : take i bs ≡ bs = take_all i bs a in rw e at v.same
    stored h (no a) =
        v.same
        ∙ sym (sets_out (sets out₀ at (take i bs)) (at + i) (drop i bs) (rw length-sets (omega arith)))
        ∙ ap (λ n. sets (sets out₀ at (take i bs)) (at + n) (drop i bs)) (sym taken)
        ∙ sym (sets-append out₀ at (take i bs) (drop i bs))
        ∙ ap (sets out₀ at) (take-append-drop i bs)

    -- all that have room
    pub done : {r : ℕ} → fits ≤ i → length out₀ * 1 < 2 ^ 63 → r ≡ past at (length bs) → Put out₀ at bs r out
    done h s p = record { place = p; bytes = λ _. stored h (dec_le (length bs) i); long = v.long; short = omega arith }
