-- A call is its writer after the passes.
use Rattle.std.specs.Prelude.{Ok, Err}
use Rattle.syntax.specs.Refusals.{number, Resolved}
use Prim.Native.Nat.{ℕ, ◌+◌}
use mathlib.Core.Path.{◌≡◌, sym, ◌∙◌, ap}
use mathlib.Core.Bool.{Bool, true, false}
use mathlib.Core.List.{List, ◌++◌}
use lib.ListN.{length, replicate}
use Rattle.definition.specs.Binary.{module'}
use Rattle.definition.specs.Assemble.{Maker, call_strict, call_strict_names}
use Rattle.definition.specs.Assemble.{output_after, work_after, Outcome, outcome, call_by, call, call_names}
use Rattle.syntax.specs.declared.Refusal.{Refusal}
use Rattle.walk.specs.Walk.{fields_in}
use Rattle.scope.specs.Scope.{scope_in}
use Rattle.kept.specs.Tally.{tallies, no_tally}
use Rattle.kept.specs.declared.tally.Tally.{Tally}
use Rattle.sections.specs.Write.{Writable, Held, all_entries, module_items}
use Rattle.name_section.specs.Section.{names_in}
use Rattle.passes.specs.Passes.{Prepared}
use Rattle.passes.specs.Passes.{makes, writes, ReadyBy, Prepares}
use Rattle.writers.specs.Does.{heard, Does}
use Rattle.assembler.specs.Run.{Runs, outcome_of}
use Rattle.writers.specs.declared.Said.{Said}
use Rattle.passes.specs.declared.Passed.{Passed}

module _ (strict : Bool) (s w : List ℕ) (q : Resolved Passed) (w₁ b : List ℕ) (h : Prepares strict s w q w₁ b) where
  module _ (p : Passed) (d : q ≡ Ok p) where
    done : Prepares strict s w (Ok p) w₁ b
    done = rw d at h

    pub run-writable : Writable s w₁
    run-writable = done.ready.writable

    pub run-held : Held b (all_entries s w₁)
    run-held = done.ready.held

    pub run-tally : p.tally ≡ tallies no_tally (all_entries s w₁)
    run-tally = done.ready.tally

    -- the writer does the rest
    writer_done : (names : Bool) (old : List ℕ) (z : Said) (w₂ new : List ℕ)
        → Does p.count (writes names (fields_in s) (scope_in s w₁, module_items s w₁)) w₁ old z w₂ new → Runs (makes strict names) s w old z w₂ new
    writer_done names old z w₂ new y = record { says = y.says ∙ ap (heard old) (sym (done.says names (length old))); long = y.long ∙ done.long }

    pub run-names : (names : Bool) (old : List ℕ) (z : Said) (w₂ new : List ℕ) → names ≡ true
        → Does p.count (module' (module_items s w₁) ++ names_in s w₁) w₁ old z w₂ new → Runs (makes strict names) s w old z w₂ new
    unfolding names_in
    run-names names old z w₂ new b y = rw b (writer_done true old z w₂ new y)

    pub run_module : (names : Bool) (old : List ℕ) (z : Said) (w₂ new : List ℕ) → names ≡ false
        → Does p.count (module' (module_items s w₁)) w₁ old z w₂ new → Runs (makes strict names) s w old z w₂ new
    run_module names old z w₂ new b y = rw b (writer_done false old z w₂ new y)

  -- a pass has refused
  pub run_not : (names : Bool) (old : List ℕ) (r : Refusal) (n : ℕ) → q ≡ Err r → n ≡ number r.fault
      → Runs (makes strict names) s w old (record { number = n; rec = r.rec; first = r.first; len = 0 }) w₁ old
  unfolding heard output_after
  run_not names old r n d e =
      let x : Prepares strict s w (Err r) w₁ b = rw d at h in
      rw e (record { says = ap (heard old) (sym (x.says names (length old))); long = x.long })

pub call-is : (make : Maker) (s w old : List ℕ) (r : Said) (w' w'' new : List ℕ) → Runs make s w old r w' new → w'' ≡ replicate (length w') 0 → outcome_of r new w'' ≡ call_by make s w old
unfolding call_by outcome work_after heard
call-is make s w old r w' w'' new h e =
    let z : w'' ≡ replicate (length w) 0 = e ∙ ap (λ n. replicate n 0) h.long in
    λ i. record { number = (h.says i).number; rec = (h.says i).rec; first = (h.says i).first; written = (h.says i).written; output = (h.says i).output; work = z i }

pub plain-call : (s w old : List ℕ) (o : Outcome) → o ≡ call_by (makes false false) s w old → o ≡ call s w old
unfolding call
plain-call s w old o e = e

pub names-call : (s w old : List ℕ) (o : Outcome) → o ≡ call_by (makes false true) s w old → o ≡ call_names s w old
unfolding call_names
names-call s w old o e = e

pub strict-call : (s w old : List ℕ) (o : Outcome) → o ≡ call_by (makes true false) s w old → o ≡ call_strict s w old
unfolding call_strict
strict-call s w old o e = e

pub strict-names-call : (s w old : List ℕ) (o : Outcome) → o ≡ call_by (makes true true) s w old → o ≡ call_strict_names s w old
unfolding call_strict_names
strict-names-call s w old o e = e
