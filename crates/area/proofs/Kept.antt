-- Laws of `Kept`: nothing written, one word written, one after the other, and what a word is.
use Prim.Native.Nat.{ℕ, zero, suc, ◌≤◌, ◌<◌}
use mathlib.Core.Path.{◌≡◌, refl, ap, sym, ◌∙◌}
use mathlib.Core.List.{List, [], ◌∷◌}
use lib.ListN.{take, get_or, set, length-set}
use native.Mathlib.Omega.{arith}
use Rattle.area.specs.Kept.{Kept}

-- a word that is written at `n` or after it
take-set : (n i v : ℕ) (w : List ℕ) → n ≤ i → take n (set w i v) ≡ take n w
take-set zero i v w h = refl
take-set (suc n) zero v w h = absurd (omega arith)
take-set (suc n) (suc i) v [] h = refl
take-set (suc n) (suc i) v (x ∷ w) h = ap (λ (l : List ℕ). x ∷ l) (take-set n i v w (omega arith))

-- a word below `n` is among the first `n`
get_d_take : (n i : ℕ) (w : List ℕ) → i < n → get_or (take n w) i 0 ≡ get_or w i 0
get_d_take zero i w h = absurd (omega arith)
get_d_take (suc n) i [] h = refl
get_d_take (suc n) zero (x ∷ w) h = refl
get_d_take (suc n) (suc i) (x ∷ w) h = get_d_take n i w (omega arith)

-- fewer of the first
take_less : (m n : ℕ) (w : List ℕ) → m ≤ n → take m w ≡ take m (take n w)
take_less zero n w h = refl
take_less (suc m) zero w h = absurd (omega arith)
take_less (suc m) (suc n) [] h = refl
take_less (suc m) (suc n) (x ∷ w) h = ap (λ (l : List ℕ). x ∷ l) (take_less m n w (omega arith))

pub kept_same : (n : ℕ) (w : List ℕ) → Kept n w w
kept_same n w = record { low = refl; long = refl }

pub kept_set : (n i v : ℕ) (w : List ℕ) → n ≤ i → Kept n w (set w i v)
kept_set n i v w h = record { low = take-set n i v w h; long = length-set w i v }

pub kept_then : {n : ℕ} {a b c : List ℕ} → Kept n a b → Kept n b c → Kept n a c
kept_then x y = record { low = y.low ∙ x.low; long = y.long ∙ x.long }

pub kept_less : (m n : ℕ) {w w' : List ℕ} → m ≤ n → Kept n w w' → Kept m w w'
kept_less m n {w} {w'} h k = record { low = take_less m n w' h ∙ ap (take m) k.low ∙ sym (take_less m n w h); long = k.long }

pub kept_word : {n : ℕ} {w w' : List ℕ} → Kept n w w' → (i : ℕ) → i < n → get_or w' i 0 ≡ get_or w i 0
kept_word {n} {w} {w'} k i h = sym (get_d_take n i w' h) ∙ ap (λ (l : List ℕ). get_or l i 0) k.low ∙ get_d_take n i w h
