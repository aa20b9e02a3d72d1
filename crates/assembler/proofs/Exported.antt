-- The exported calls hand on what the assembler says.
use Prim.Native.Nat.{ℕ, ◌≤◌}
use mathlib.Core.Path.{◌≡◌, refl, sym, ◌∙◌, ap}
use mathlib.Core.List.{List, [], ◌++◌, append-nil}
use lib.ListN.{length, take, drop, length-append, length-take, take-append-drop, drop_of_length-le}
use native.Mathlib.Omega.{arith}
use mir.Syntax.{w32}
use mir.Val.{Fits}
use mathlib.Core.Bool.{true, false}
use Rattle.definition.specs.Assemble.{Maker, assemble_by, outcome, output_after, call_by, call, call_names, call_strict, call_strict_names}
use Rattle.passes.specs.Passes.{makes}
use Rattle.assembler.specs.Run.{outcome_of, Call}
use Rattle.assembler.specs.Export.{Handed, handed, answer_of, handed_on, lent, exported_by}
use Rattle.writers.specs.declared.Said.{Said}

-- what is written lies in the output
pub written-within : (make : Maker) (s w old : List ℕ) → (call_by make s w old).written ≤ length (call_by make s w old).output
unfolding call_by outcome output_after
written-within make s w old =
    let bs = (assemble_by make s (length w) (length old)).bytes in
    rw (length-append bs (drop (length bs) old)) (omega arith)

module _ (old : List ℕ) (n : ℕ) (g : n ≡ lent old) where
  -- as much is lent as is said
  pub lent-long : n ≡ length (take n old)
  lent-long = omega (arith, g, length-take n old)

  module _ (make : Maker) (s w : List ℕ) (r : Said) (new w' : List ℕ) (e : outcome_of r new w' ≡ call_by make s w (take n old)) where
    -- the written length fits in a word, since what is lent keeps its length
    pub len_fits : length new ≡ length (take n old) → Fits w32 r.len
    len_fits k =
        let a : r.len ≤ length new = rw (ap (λ o. o.written) e, ap (λ o. length o.output) e) (written-within make s w (take n old)) in
        record { fits = omega (arith, g, a, k, lent-long) }

    pub hands_on : handed r.number (answer_of (outcome_of r new w')) (new ++ drop n old) w' ≡ exported_by (call_by make) s w old
    unfolding exported_by handed_on
    hands_on = ap (λ o. handed_on o (drop n old)) e ∙ ap (λ m. handed_on (call_by make s w (take m old)) (drop m old)) g

-- any of the calls
pub hands_module : (s w old : List ℕ) (h : Handed) → h ≡ exported_by (call_by (makes false false)) s w old → h ≡ exported_by call s w old
unfolding exported_by call
hands_module s w old h e = e

pub hands_names : (s w old : List ℕ) (h : Handed) → h ≡ exported_by (call_by (makes false true)) s w old → h ≡ exported_by call_names s w old
unfolding exported_by call_names
hands_names s w old h e = e

pub hands_strict : (s w old : List ℕ) (h : Handed) → h ≡ exported_by (call_by (makes true false)) s w old → h ≡ exported_by call_strict s w old
unfolding exported_by call_strict
hands_strict s w old h e = e

pub hands_strict_names : (s w old : List ℕ) (h : Handed) → h ≡ exported_by (call_by (makes true true)) s w old → h ≡ exported_by call_strict_names s w old
unfolding exported_by call_strict_names
hands_strict_names s w old h e = e

-- an output whose length fits in a word is lent as a whole: an exported call is the definition's
pub exported_call : (f : Call) (s w old : List ℕ) → length old ≤ 4294967295 → exported_by f s w old ≡ handed_on (f s w old) []
unfolding exported_by
exported_call f s w old h =
    let d : drop (lent old) old ≡ [] = drop_of_length-le old {i = lent old} (omega arith) in
    let t : take (lent old) old ≡ old = sym (append-nil (take (lent old) old)) ∙ ap (λ z. take (lent old) old ++ z) (sym d) ∙ take-append-drop (lent old) old in
    rw (d, t) refl
