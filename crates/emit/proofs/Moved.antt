-- The loop of `move_up`: all the bytes but the first `left` stand at their new places, and those are as they were.
use Prim.Native.Nat.{ℕ, suc, ◌+◌, ◌-◌, ◌≤◌, ◌<◌}
use mathlib.Core.Path.{◌≡◌, refl, sym, ◌∙◌, ap}
use mathlib.Core.List.{List, [], ◌∷◌}
use lib.ListN.{length, get_or, set, take, drop, length-set, length-drop, drop_of_length-le}
use lib.Seq.{sets, drop-cons, get_or-take, get_or-drop, get_or-set_other, length-take-le}
use native.Mathlib.Omega.{arith}
use Rattle.emit.proofs.Laws.{set_before}

pub record Moved (out₀ : List ℕ) (at n by : ℕ) (out : List ℕ) (left : ℕ) : Type 0 where
  pub within : left ≤ n
  pub long : length out ≡ length out₀
  pub same : out ≡ sets out₀ (at + by + left) (drop left (take n (drop at out₀)))

-- what is before a run is as it was
sets_below : (l : List ℕ) (j : ℕ) (xs : List ℕ) (i : ℕ) → i < j → get_or (sets l j xs) i 0 ≡ get_or l i 0
sets_below l j [] i h = refl
sets_below l j (x ∷ xs) i h = sets_below (set l j x) (suc j) xs i (omega arith) ∙ get_or-set_other l j i x 0 (λ e. omega arith)

module _ (out₀ : List ℕ) (at n by : ℕ) (h : at + n + by ≤ length out₀) where
  abbrev bs : List ℕ
  bs = take n (drop at out₀)

  long_bs : length bs ≡ n
  long_bs = length-take-le n (drop at out₀) (rw length-drop (omega arith))

  -- none yet
  pub begin : Moved out₀ at n by out₀ n
  begin =
      let e : drop n bs ≡ [] = drop_of_length-le bs {i = n} (omega (arith, long_bs)) in
      record { within = omega arith; long = refl; same = rw e refl }

  -- one more: the last of those that are left
  more : (k : ℕ) → k < n → set (sets out₀ (at + by + suc k) (drop (suc k) bs)) (at + by + k) (get_or (sets out₀ (at + by + suc k) (drop (suc k) bs)) (at + k) 0)
      ≡ sets out₀ (at + by + k) (drop k bs)
  more k g =
      let e : at + by + suc k ≡ suc (at + by + k) = omega arith in
      let d : get_or (sets out₀ (suc (at + by + k)) (drop (suc k) bs)) (at + k) 0 ≡ get_or bs k 0 =
      sets_below out₀ (suc (at + by + k)) (drop (suc k) bs) (at + k) (omega arith) ∙ sym (get_or-drop at out₀ k 0) ∙ sym (get_or-take n (drop at out₀) k 0 g) in
      rw (e, d, set_before out₀ (at + by + k) (suc (at + by + k)) (get_or bs k 0) (drop (suc k) bs) (omega arith)) (ap (sets out₀ (at + by + k)) (sym (drop-cons bs k 0 (omega (arith, long_bs)))))

  module _ (out : List ℕ) (left : ℕ) (v : Moved out₀ at n by out left) where
    pub again : 0 < left → Moved out₀ at n by (set out (at + by + (left - 1)) (get_or out (at + (left - 1)) 0)) (left - 1)
    again g =
        let e : left ≡ suc (left - 1) = omega arith in
        let d : out ≡ sets out₀ (at + by + suc (left - 1)) (drop (suc (left - 1)) bs) = v.same ∙ ap (λ i. sets out₀ (at + by + i) (drop i bs)) e in
        record {
          within = omega (arith, v.within);
          long = length-set out (at + by + (left - 1)) (get_or out (at + (left - 1)) 0) ∙ v.long;
          same = ap (λ o. set o (at + by + (left - 1)) (get_or o (at + (left - 1)) 0)) d ∙ more (left - 1) (omega (arith, v.within));
        }

    pub done : left ≤ 0 → out ≡ sets out₀ (at + by) bs
    done g =
        let e : left ≡ 0 = omega arith in
        let d : at + by + 0 ≡ at + by = omega arith in
        v.same ∙ ap (λ i. sets out₀ (at + by + i) (drop i bs)) e ∙ rw d refl
