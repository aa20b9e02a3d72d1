-- Demand 3 of the assembler: two streams that differ only in identifiers, equal in the one where they are equal in the other, get the same answer
-- from any two calls that keep the promise. The premises are those of `demand_3_call`, over the definition.
use Prim.Native.Nat.{ℕ, ◌≤◌}
use mathlib.Core.Path.{◌≡◌, refl, sym, ◌∙◌, ap}
use mathlib.Core.Bool.{Bool, true, false}
use mathlib.Core.List.{List, ◌++◌}
use lib.ListN.{length, take, drop, replicate, length-take}
use native.Mathlib.Omega.{arith}
use Rattle.definition.specs.Assemble.{least_work}
use Rattle.definition.specs.Basic.{same_bytes}
use Rattle.definition.specs.Syntax.{Bytes}
use Rattle.definition.specs.Assemble.{Maker, module_in, named_module_in, output_after, Outcome, outcome, call_by, call, call_names, call_strict, call_strict_names}
use Rattle.renaming.specs.Renamed.{Renamed, SaysTheSame, names_of, SaysTheSameBefore}
use Rattle.renaming.proofs.Demand3.{same-said, demand_3_call_by}
use Rattle.renaming.proofs.Demand3Names.{demand_3_names_by}
use Rattle.assembler.specs.Run.{outcome_of, AssemblesBy, Assembles, AssemblesNames, AssemblesStrict, AssemblesStrictNames}
use Rattle.assembler.specs.Export.{lent, ExportsBy, Exports, ExportsNames, ExportsStrict, ExportsStrictNames}
use Rattle.assembler.proofs.Exported.{written-within}
use Rattle.writers.specs.declared.Said.{Said}
use Rattle.promises.specs.Promise.{outcome_in, Demand1, SameAnswer, SameExport}
use Rattle.promises.proofs.Exported.{export_says, export_answer, same-beyond, before-beyond}
use Rattle.promises.proofs.Demand1.{demand_1_by, export_1_by}

-- ## What two calls leave

-- all words are 0
same-works : (work work' : List ℕ) (old old' : Bytes) (o o' : Outcome) → Demand1 work old o → Demand1 work' old' o' → length work ≡ length work' → o.work ≡ o'.work
same-works work work' old old' o o' x y l = x.work_cleared ∙ ap (λ n. replicate n 0) l ∙ sym y.work_cleared

-- ## The module, in a strict call and in a plain one

module _ (strict : Bool) where
  abbrev make : Maker
  make = module_in strict same_bytes

  -- the bytes beyond the module are those that were there
  call-outputs : (s t : Bytes) (d : Renamed s t) (work work' : List ℕ) (h : least_work ≤ length work) (h' : least_work ≤ length work') (old old' : Bytes)
      → old ≡ old' → (call_by make s work old).output ≡ (call_by make t work' old').output
  unfolding call_by outcome
  call-outputs s t d work work' h h' old old' o =
      rw o (ap (output_after old') (same-said strict s t (length work) (length work') (length old') (length old') h h' refl d))

  module _ (s t : Bytes) (d : Renamed s t) (work work' : List ℕ) (h : least_work ≤ length work) (h' : least_work ≤ length work')
      (old old' : Bytes) (e : length old ≡ length old') (r r' : Said) (out out' w w' : List ℕ)
      (k : AssemblesBy (call_by make) s work old r out w) (k' : AssemblesBy (call_by make) t work' old' r' out' w') where
    same : SaysTheSame (outcome_of r out w) (outcome_of r' out' w')
    same = rw (k, k') (demand_3_call_by strict s t work work' old old' h h' e d)

    pub demand_3_by : SameAnswer work work' old old' r r' out out' w w'
    demand_3_by = record {
      said = λ i. record { number = same.number i; rec = same.rec i; first = same.first i; len = same.written i };
      bytes = same.bytes;
      outputs = λ o. ap (λ x. x.output) k ∙ call-outputs s t d work work' h h' old old' o ∙ sym (ap (λ x. x.output) k');
      works = same-works work work' old old' (outcome_of r out w) (outcome_of r' out' w') (rw k (demand_1_by make s work old)) (rw k' (demand_1_by make t work' old'));
    }

  module _ (s t : Bytes) (d : Renamed s t) (work work' : List ℕ) (h : least_work ≤ length work) (h' : least_work ≤ length work')
      (old old' : Bytes) (e : length old ≡ length old') (r r' : ℕ) (a a' out out' w w' : List ℕ)
      (k : ExportsBy (call_by make) s work old r a out w) (k' : ExportsBy (call_by make) t work' old' r' a' out' w') where
    -- as much of both outputs is lent
    lent_same : length (take (lent old) old) ≡ length (take (lent old') old')
    lent_same = omega (arith, e, length-take (lent old) old, length-take (lent old') old')

    same_export : SaysTheSame (outcome_in r a out w) (outcome_in r' a' out' w')
    same_export =
        rw (export_says (call_by make) s work old r a out w k, export_says (call_by make) t work' old' r' a' out' w' k')
        (same-beyond _ _ (written-within make s work _) (written-within make t work' _) _ _
        (demand_3_call_by strict s t work work' (take (lent old) old) (take (lent old') old') h h' lent_same d))

    export_outputs : old ≡ old' → out ≡ out'
    export_outputs o =
        ap (λ x. x.output) (export_says (call_by make) s work old r a out w k)
        ∙ rw o (ap (λ x. x ++ drop (lent old') old') (call-outputs s t d work work' h h' (take (lent old') old') (take (lent old') old') refl))
        ∙ sym (ap (λ x. x.output) (export_says (call_by make) t work' old' r' a' out' w' k'))

    pub export_3_by : SameExport work work' old old' r r' a a' out out' w w'
    export_3_by = record {
      number = same_export.number;
      answer =
          export_answer (call_by make) s work old r a out w k
          ∙ rw (same_export.number, same_export.rec, same_export.written, same_export.first) refl
          ∙ sym (export_answer (call_by make) t work' old' r' a' out' w' k');
      bytes = same_export.bytes;
      outputs = export_outputs;
      works = same-works work work' old old' _ _ (export_1_by make s work old r a out w k) (export_1_by make t work' old' r' a' out' w' k');
    }

  -- ## With names: the bytes before the name section, and nothing of refusal 18

  abbrev naming : Maker
  naming = named_module_in strict

  module _ (s t : Bytes) (d : Renamed s t) (work work' : List ℕ) (h : least_work ≤ length work) (h' : least_work ≤ length work') (old old' : Bytes) where
    pub names_3_by : (r r' : Said) (out out' w w' : List ℕ) → AssemblesBy (call_by naming) s work old r out w → AssemblesBy (call_by naming) t work' old' r' out' w'
        → (r.number ≡ 18 → ⊥) → (r'.number ≡ 18 → ⊥)
        → SaysTheSameBefore (names_of strict d.first) (names_of strict d.second) (outcome_of r out w) (outcome_of r' out' w')
    names_3_by r r' out out' w w' k k' n n' =
        rw (k, k') (demand_3_names_by strict s t work work' old old' h h' d (λ e. n (ap (λ x. x.number) k ∙ e)) (λ e. n' (ap (λ x. x.number) k' ∙ e)))

    -- the written length is the answer's third word
    pub export_names_3_by : (r r' : ℕ) (a a' out out' w w' : List ℕ) → ExportsBy (call_by naming) s work old r a out w → ExportsBy (call_by naming) t work' old' r' a' out' w'
        → (r ≡ 18 → ⊥) → (r' ≡ 18 → ⊥)
        → SaysTheSameBefore (names_of strict d.first) (names_of strict d.second) (outcome_in r a out w) (outcome_in r' a' out' w')
    export_names_3_by r r' a a' out out' w w' k k' n n' =
        let x = export_says (call_by naming) s work old r a out w k in
        let x' = export_says (call_by naming) t work' old' r' a' out' w' k' in
        rw (x, x')
        (before-beyond _ _ (written-within naming s work _) (written-within naming t work' _) _ _ _ _
        (demand_3_names_by strict s t work work' (take (lent old) old) (take (lent old') old') h h' d (λ e. n (ap (λ o. o.number) x ∙ e)) (λ e. n' (ap (λ o. o.number) x' ∙ e))))

-- ## The calls

module _ (s t : Bytes) (d : Renamed s t) (work work' : List ℕ) (h : least_work ≤ length work) (h' : least_work ≤ length work')
    (old old' : Bytes) (e : length old ≡ length old') (r r' : Said) (out out' w w' : List ℕ) where
  pub demand_3_assemble : Assembles s work old r out w → Assembles t work' old' r' out' w' → SameAnswer work work' old old' r r' out out' w w'
  unfolding call
  demand_3_assemble = demand_3_by false s t d work work' h h' old old' e r r' out out' w w'

  pub demand_3_assemble_strict : AssemblesStrict s work old r out w → AssemblesStrict t work' old' r' out' w' → SameAnswer work work' old old' r r' out out' w w'
  unfolding call_strict
  demand_3_assemble_strict = demand_3_by true s t d work work' h h' old old' e r r' out out' w w'

module _ (s t : Bytes) (d : Renamed s t) (work work' : List ℕ) (h : least_work ≤ length work) (h' : least_work ≤ length work')
    (old old' : Bytes) (r r' : Said) (out out' w w' : List ℕ) where
  pub demand_3_assemble_names : AssemblesNames s work old r out w → AssemblesNames t work' old' r' out' w' → (r.number ≡ 18 → ⊥) → (r'.number ≡ 18 → ⊥)
      → SaysTheSameBefore (names_of false d.first) (names_of false d.second) (outcome_of r out w) (outcome_of r' out' w')
  unfolding call_names
  demand_3_assemble_names = names_3_by false s t d work work' h h' old old' r r' out out' w w'

  pub demand_3_assemble_strict_names : AssemblesStrictNames s work old r out w → AssemblesStrictNames t work' old' r' out' w' → (r.number ≡ 18 → ⊥) → (r'.number ≡ 18 → ⊥)
      → SaysTheSameBefore (names_of true d.first) (names_of true d.second) (outcome_of r out w) (outcome_of r' out' w')
  unfolding call_strict_names
  demand_3_assemble_strict_names = names_3_by true s t d work work' h h' old old' r r' out out' w w'

-- ## The exported calls

module _ (s t : Bytes) (d : Renamed s t) (work work' : List ℕ) (h : least_work ≤ length work) (h' : least_work ≤ length work')
    (old old' : Bytes) (e : length old ≡ length old') (r r' : ℕ) (a a' out out' w w' : List ℕ) where
  pub demand_3_export : Exports s work old r a out w → Exports t work' old' r' a' out' w' → SameExport work work' old old' r r' a a' out out' w w'
  unfolding call
  demand_3_export = export_3_by false s t d work work' h h' old old' e r r' a a' out out' w w'

  pub demand_3_export_strict : ExportsStrict s work old r a out w → ExportsStrict t work' old' r' a' out' w' → SameExport work work' old old' r r' a a' out out' w w'
  unfolding call_strict
  demand_3_export_strict = export_3_by true s t d work work' h h' old old' e r r' a a' out out' w w'

module _ (s t : Bytes) (d : Renamed s t) (work work' : List ℕ) (h : least_work ≤ length work) (h' : least_work ≤ length work')
    (old old' : Bytes) (r r' : ℕ) (a a' out out' w w' : List ℕ) where
  pub demand_3_export_names : ExportsNames s work old r a out w → ExportsNames t work' old' r' a' out' w' → (r ≡ 18 → ⊥) → (r' ≡ 18 → ⊥)
      → SaysTheSameBefore (names_of false d.first) (names_of false d.second) (outcome_in r a out w) (outcome_in r' a' out' w')
  unfolding call_names
  demand_3_export_names = export_names_3_by false s t d work work' h h' old old' r r' a a' out out' w w'

  pub demand_3_export_strict_names : ExportsStrictNames s work old r a out w → ExportsStrictNames t work' old' r' a' out' w' → (r ≡ 18 → ⊥) → (r' ≡ 18 → ⊥)
      → SaysTheSameBefore (names_of true d.first) (names_of true d.second) (outcome_in r a out w) (outcome_in r' a' out' w')
  unfolding call_strict_names
  demand_3_export_strict_names = export_names_3_by true s t d work work' h h' old old' r r' a a' out out' w w'
