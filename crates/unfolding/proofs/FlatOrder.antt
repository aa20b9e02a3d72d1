-- Flat order, met from the first part to the last: the parts that wait for operands are kept, as `flatten` of the definition keeps operators.
use mathlib.Core.Path.{◌≡◌, refl, ◌∙◌, sym, ap}
use Prim.Native.Nat.{ℕ, zero, suc, ◌+◌}
use mathlib.Core.List.{List, [], ◌∷◌, ◌++◌, append_assoc, append-nil}
use lib.ListN.{length, take, drop, take-append-drop}
use native.Mathlib.Omega.{arith}
use Rattle.definition.specs.Basic.{concat_map}
use Rattle.unfolding.specs.FlatStream.{Part, joined, taking, groups, flat_order}

-- ## Parts that wait

-- innermost first, each with how many operands are due after the next one
abbrev pub Waits : Type 0
Waits = List (ℕ × Part)

-- an operand is complete: the parts that stand right after it, and those that still wait
abbrev pub followed : Waits → List Part
followed [] = []
followed ((zero, p) ∷ ws) = p ∷ followed ws
followed ((suc n, p) ∷ ws) = []

abbrev pub waiting : Waits → Waits
waiting [] = []
waiting ((zero, p) ∷ ws) = waiting ws
waiting ((suc n, p) ∷ ws) = (n, p) ∷ ws

-- together they are as many as before
pub none_lost : (ws : Waits) → length (followed ws) + length (waiting ws) ≡ length ws
none_lost [] = omega arith
none_lost ((zero, p) ∷ ws) = omega (arith, none_lost ws)
none_lost ((suc n, p) ∷ ws) = omega arith

-- what comes in flat order, by the groups that follow: the innermost part that waits makes a group of its operands, and that is an operand of the next
abbrev pub fill : Waits → List (List Part) → List Part
fill [] gs = joined gs
fill ((n, p) ∷ ws) gs = fill ws (taking (suc n) p gs)

-- the first group's beginning comes first
fill_begins : (ws : Waits) (g h : List Part) (gs : List (List Part)) → fill ws ((g ++ h) ∷ gs) ≡ g ++ fill ws (h ∷ gs)
unfolding concat_map
fill_begins [] g h gs = append_assoc g h (joined gs)
fill_begins ((n, p) ∷ ws) g h gs =
    ap (λ k. fill ws (k ∷ drop n gs)) (rw (append_assoc g h (joined (take n gs)), append_assoc g (h ++ joined (take n gs)) (p ∷ [])) refl)
    ∙ fill_begins ws g (h ++ joined (take n gs) ++ (p ∷ [])) (drop n gs)

-- the first group, the parts that stand right after it, and the rest
pub fill_first : (ws : Waits) (g : List Part) (gs : List (List Part)) → fill ws (g ∷ gs) ≡ g ++ (followed ws ++ fill (waiting ws) gs)
unfolding concat_map
fill_first [] g gs = refl
fill_first ((zero, p) ∷ ws) g gs =
    ap (λ k. fill ws ((k ++ (p ∷ [])) ∷ gs)) (append-nil g)
    ∙ fill_first ws (g ++ (p ∷ [])) gs
    ∙ append_assoc g (p ∷ []) (followed ws ++ fill (waiting ws) gs)
fill_first ((suc n, p) ∷ ws) g gs =
    ap (λ k. fill ws (k ∷ drop (suc n) gs)) (append_assoc g (joined (take (suc n) gs)) (p ∷ []))
    ∙ fill_begins ws g (joined (take (suc n) gs) ++ (p ∷ [])) (drop (suc n) gs)

-- ## Flat order is the same parts in another order: what is counted over them stays

abbrev pub sum : (Part → ℕ) → List Part → ℕ
sum f [] = 0
sum f (p ∷ ps) = f p + sum f ps

module _ (f : Part → ℕ) where
  sum_append : (ps qs : List Part) → sum f (ps ++ qs) ≡ sum f ps + sum f qs
  sum_append [] qs = omega arith
  sum_append (p ∷ ps) qs = omega (arith, sum_append ps qs)

  joined-append : (gs hs : List (List Part)) → joined (gs ++ hs) ≡ joined gs ++ joined hs
  unfolding concat_map
  joined-append [] hs = refl
  joined-append (g ∷ gs) hs = rw (joined-append gs hs) (sym (append_assoc g (joined gs) (joined hs)))

  sum_taking : (n : ℕ) (p : Part) (gs : List (List Part)) → sum f (joined (taking n p gs)) ≡ f p + sum f (joined gs)
  unfolding concat_map
  sum_taking n p gs =
      let a = sum_append (joined (take n gs) ++ (p ∷ [])) (joined (drop n gs)) in
      let b = sum_append (joined (take n gs)) (p ∷ []) in
      let c = sum_append (joined (take n gs)) (joined (drop n gs)) in
      let d : sum f (joined (take n gs) ++ joined (drop n gs)) ≡ sum f (joined gs) = ap (sum f) (sym (joined-append (take n gs) (drop n gs)) ∙ ap joined (take-append-drop n gs)) in
      omega arith

  pub sum_flat : (ps : List Part) → sum f (flat_order ps) ≡ sum f ps
  unfolding flat_order groups
  sum_flat [] = unfold concat_map in refl
  sum_flat (p ∷ ps) = sum_taking p.operands p (groups ps) ∙ ap (λ n. f p + n) (sum_flat ps)
